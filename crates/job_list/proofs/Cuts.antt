-- Bytes that are cut at their first LF.
use Rattle.std.proofs.Common.{◌≡◌, ◌∙◌, ℕ, zero, suc, ◌+◌, ◌-◌, ◌<◌, ◌≤◌, ◌||◌, ◌&&◌, not, Bool, true, false, List, [], ◌∷◌, ◌++◌, length, take, drop, get_or, cond, nat_lt, Option, Some, None, refl, sym, ap, ap₂, subst, arith}
use Rattle.std.proofs.lemmas.Bool.{eqb-true, ltb-false}
use Rattle.std.proofs.lemmas.List.{length-drop, take-append-drop, take_all}
use Rattle.std.proofs.lemmas.List.Folds.{list_any_more}
use Rattle.std.proofs.lemmas.List.Quantifiers.{position-Some}
use Rattle.std.proofs.lemmas.List.Sums.{fails_before_first}
use Rattle.std.proofs.Math.Seq.{drop-cons, take-length}
use Rattle.std.specs.List.{list_any, position, position_or_len, slice_split}
use Rattle.std.proofs.lemmas.Str.{IsUtf8-from_is_utf8, is_utf8-from_IsUtf8}
use Rattle.std.specs.Str.{IsUtf8, is_utf8}
use Rattle.job_list.specs.Apart.{IsCut}
use Rattle.job_list.specs.Lines.{LineParts, is_lf, is_space, line_of, line_of_words}

none_in_prefix : (xs : List ℕ) (i : ℕ) → i ≤ length xs → ((k : ℕ) → k < i → is_lf (get_or xs k 0) ≡ false) → list_any is_lf (take i xs) ≡ false
none_in_prefix xs zero here none = refl
none_in_prefix xs (suc i) here none =
    let first : i < length xs = omega arith in
    let before : list_any is_lf (take i xs) ≡ false = none_in_prefix xs i (omega arith) (λ k h. none k (omega arith)) in
    let item : is_lf (get_or xs i 0) ≡ false = none i (omega arith) in
    let grown : list_any is_lf (take (i + 1) xs) ≡ (list_any is_lf (take i xs) || is_lf (get_or xs i 0)) = list_any_more is_lf xs i 0 first in
    let same : suc i ≡ i + 1 = omega arith in
    ap (λ (n : ℕ). list_any is_lf (take n xs)) same ∙ grown ∙ ap₂ (λ (a b : Bool). a || b) before item

-- The first LF is at that place.
pub cut_there : (xs : List ℕ) (i : ℕ) → position is_lf xs ≡ Some i → IsCut xs (take i xs) (take (length xs - (i + 1)) (drop (i + 1) xs))
cut_there xs i is =
    let at = position-Some is_lf xs i 0 is in
    let lf : get_or xs i 0 ≡ 10 = eqb-true (get_or xs i 0) 10 at.1 in
    let rest : take (length xs - (i + 1)) (drop (i + 1) xs) ≡ drop (i + 1) xs = take_all (length xs - (i + 1)) (drop (i + 1) xs) (omega (arith, length-drop (i + 1) xs)) in
    let one : suc i ≡ i + 1 = omega arith in
    let suffix : drop i xs ≡ 10 ∷ drop (i + 1) xs = drop-cons xs i 0 at.0 ∙ ap₂ (λ (a : ℕ) (b : List ℕ). a ∷ b) lf (ap (λ (n : ℕ). drop n xs) one) in (
      sym (take-append-drop i xs) ∙ ap (λ (l : List ℕ). take i xs ++ l) (suffix ∙ ap (λ (l : List ℕ). 10 ∷ l) (sym rest)),
      none_in_prefix xs i (omega arith) at.2,
    )

pub has_lf : (text suffix : List ℕ) → list_any is_lf (text ++ 10 ∷ suffix) ≡ true
has_lf [] suffix = refl
has_lf (b ∷ text) suffix =
    let later = has_lf text suffix in
    elim (is_lf b) as (λ v. (v || list_any is_lf (text ++ 10 ∷ suffix)) ≡ true) [ true ↦ refl | false ↦ later ]

or_false : (a b : Bool) → (a || b) ≡ false → b ≡ false
or_false true b is = absurd (cc)
or_false false b is = is

later_of : (c : ℕ) (a : List ℕ) → list_any is_lf (c ∷ a) ≡ false → list_any is_lf a ≡ false
later_of c a none = or_false (is_lf c) (list_any is_lf a) none

-- There is one such text.
pub one_cut : (a b x y : List ℕ) → list_any is_lf a ≡ false → list_any is_lf b ≡ false → a ++ 10 ∷ x ≡ b ++ 10 ∷ y → (a ≡ b) × (x ≡ y)
one_cut [] [] x y one two same = (refl, cc)
one_cut [] (c ∷ b) x y one two same =
    let lf : 10 ≡ c = cc in
    let it : list_any is_lf (10 ∷ b) ≡ false = subst (λ (v : ℕ). list_any is_lf (v ∷ b) ≡ false) (sym lf) two in
    absurd (cc)
one_cut (c ∷ a) [] x y one two same =
    let lf : c ≡ 10 = cc in
    let it : list_any is_lf (10 ∷ a) ≡ false = subst (λ (v : ℕ). list_any is_lf (v ∷ a) ≡ false) lf one in
    absurd (cc)
one_cut (c ∷ a) (d ∷ b) x y one two same =
    let head : c ≡ d = cc in
    let tail : a ++ 10 ∷ x ≡ b ++ 10 ∷ y = cc in
    let later = one_cut a b x y (later_of c a one) (later_of d b two) tail in
    (ap₂ (λ (h : ℕ) (t : List ℕ). h ∷ t) head later.0, later.1)

-- A text that means a job has no LF.
no_lf_if : (u l : Bool) (o : Option LineParts) (line : LineParts) → cond (u && not l) o None ≡ Some line → l ≡ false
no_lf_if u false o line is = refl
no_lf_if true true o line is = absurd (cc)
no_lf_if false true o line is = absurd (cc)

pub line_without_lf : (text : List ℕ) (line : LineParts) → line_of text ≡ Some line → list_any is_lf text ≡ false
line_without_lf text line is = no_lf_if (is_utf8 text) (list_any is_lf text) (line_of_words (slice_split is_space text)) line is

-- Nothing is cut where there is no place.
none_at : (n m : ℕ) → cond (nat_lt n m) (Some n) None ≡ None → m ≤ n
none_at n m is = ltb-false n m (elim (nat_lt n m) as (λ v. cond v (Some n) None ≡ None → v ≡ false) [ true ↦ λ e. absurd (cc) | false ↦ λ e. refl ] is)

pub nowhere : (xs : List ℕ) → position is_lf xs ≡ None → list_any is_lf xs ≡ false
nowhere xs is =
    let far : length xs ≤ position_or_len is_lf xs = none_at (position_or_len is_lf xs) (length xs) is in
    let none = none_in_prefix xs (length xs) (omega arith) (λ k h. fails_before_first is_lf xs k 0 (omega arith)) in
    ap (list_any is_lf) (sym (take-length xs)) ∙ none

-- What a line of UTF-8 means.
meant_if : (u l : Bool) (o : Option LineParts) → u ≡ true → l ≡ false → cond (u && not l) o None ≡ o
meant_if true false o one two = refl
meant_if false l o one two = absurd (cc)
meant_if true true o one two = absurd (cc)

pub line_meant : (text : List ℕ) → IsUtf8 text → list_any is_lf text ≡ false → line_of text ≡ line_of_words (slice_split is_space text)
line_meant text utf8 none = meant_if (is_utf8 text) (list_any is_lf text) (line_of_words (slice_split is_space text)) (is_utf8-from_IsUtf8 text utf8) none

no_text : (u l : Bool) (o : Option LineParts) → (u ≡ true → ⊥) → ◌≡◌ {A = Option LineParts} None (cond (u && not l) o None)
no_text true l o none = absurd (none refl)
no_text false l o none = refl

pub none_meant : (text : List ℕ) → ¬ (IsUtf8 text) → None ≡ line_of text
none_meant text other = no_text (is_utf8 text) (list_any is_lf text) (line_of_words (slice_split is_space text)) (λ is. other (IsUtf8-from_is_utf8 text is))
