-- Bytes are a list, or have a first bad line; and there is one reading of them.
use Rattle.std.proofs.Common.{◌≡◌, ◌≢◌, ◌⊎◌, ◌∙◌, ℕ, zero, suc, ◌+◌, ◌-◌, ◌<◌, ◌≤◌, ◌&&◌, Bool, true, false, List, [], ◌∷◌, ◌++◌, length, cond, Option, Some, None, inl, inr, refl, sym, ap, ap₂, subst, arith, append_assoc, append-nil, length-append, ltb, ltb-true}
use Rattle.std.proofs.lemmas.Bool.{ltb-false}
use Rattle.std.specs.List.{list_any, position}
use Rattle.plain_words.specs.Distinct.{are_distinct}
use Rattle.job_list.specs.Apart.{IsCut, NextLine, Stands, are_apart, is_new}
use Rattle.job_list.specs.Lines.{LineParts, is_lf, line_of}
use Rattle.job_list.specs.Lists.{Begins, HasReading, IsBadLine, IsList, OneReading, lines_of, one_more, text_of, written, written_by}
use Rattle.job_list.proofs.Cuts.{cut_there, line_without_lf, nowhere, one_cut}
use Rattle.job_list.proofs.Going.{apart_after, as_many}
use Rattle.job_list.proofs.Steps.{at_most, at_start, bad_line, judged, next_stands, no_line, none_left, too_long, too_many, whole_list}

-- the first job and the later ones
more_is : (a : Option LineParts) (b : Option (List LineParts)) (lines : List LineParts) → one_more a b ≡ Some lines → (line : LineParts) × (later : List LineParts) × (a ≡ Some line) × (b ≡ Some later) × (lines ≡ line ∷ later)
more_is None None lines is = absurd (cc)
more_is None (Some later) lines is = absurd (cc)
more_is (Some line) None lines is = absurd (cc)
more_is (Some line) (Some later) lines is = (line, later, refl, refl, cc)

-- the jobs of the first texts
prefix_read : (xs ys : List (List ℕ)) (lines : List LineParts) → lines_of (xs ++ ys) ≡ Some lines → (prefix : List LineParts) × (back : List LineParts) × (lines_of xs ≡ Some prefix) × (lines ≡ prefix ++ back)
prefix_read [] ys lines is = ([], lines, refl, refl)
prefix_read (x ∷ xs) ys lines is =
    let next = more_is (line_of x) (lines_of (xs ++ ys)) lines is in
    let rest = prefix_read xs ys next.1 next.3 in
    (next.0 ∷ rest.0, rest.1, ap₂ one_more next.2 rest.2, next.4 ∙ ap (λ (l : List LineParts). next.0 ∷ l) rest.3)

text_append : (xs ys : List (List ℕ)) → text_of (xs ++ ys) ≡ text_of xs ++ text_of ys
text_append [] ys = refl
text_append (x ∷ xs) ys = ap (λ (l : List ℕ). x ++ 10 ∷ l) (text_append xs ys) ∙ sym (append_assoc x (10 ∷ text_of xs) (text_of ys))

written_append : (xs ys : List LineParts) → written (xs ++ ys) ≡ written xs ++ written ys
written_append [] ys = refl
written_append (x ∷ xs) ys = ap (λ (l : List (List ℕ)). written_by x ++ l) (written_append xs ys) ∙ sym (append_assoc (written_by x) (written xs) (written ys))

first_true : (a b : Bool) → (a && b) ≡ true → a ≡ true
first_true true b is = refl
first_true false b is = is

-- What begins a list has a prefix that begins one.
begins_prefix : (xs ys : List (List ℕ)) (lines : List LineParts) → Begins (xs ++ ys) lines → (prefix : List LineParts) × Begins xs prefix
begins_prefix xs ys lines good =
    let part = prefix_read xs ys lines good.read in (
      part.0,
      record {
        read = part.2;
        few = let few = good.few in let count = length-append xs ys in omega arith;
        short = let short = good.short in let whole = ap length (text_append xs ys) in let count = length-append (text_of xs) (text_of ys) in omega arith;
        apart = first_true (are_distinct (written part.0)) (are_distinct (written part.1) && are_apart (written part.0) (written part.1))
            (sym (apart_after (written part.0) (written part.1)) ∙ ap are_distinct (sym (written_append part.0 part.1)) ∙ ap (λ (l : List LineParts). are_distinct (written l)) (sym part.3) ∙ good.apart);
      },
    )

-- no text has an LF
abbrev AreClean : List (List ℕ) → Type 0
AreClean [] = Unit {0}
AreClean (text ∷ texts) = (list_any is_lf text ≡ false) × AreClean texts

clean : (texts : List (List ℕ)) (lines : List LineParts) → lines_of texts ≡ Some lines → AreClean texts
clean [] lines is = tt
clean (text ∷ texts) lines is =
    let next = more_is (line_of text) (lines_of texts) lines is in
    (line_without_lf text next.0 next.2, clean texts next.1 next.3)

-- the second texts go on after the first
abbrev GoesOn : List (List ℕ) → List (List ℕ) → List ℕ → List ℕ → Type 0
GoesOn one two x y = (more : List (List ℕ)) × (two ≡ one ++ more) × (x ≡ text_of more ++ y)

-- of two ways to cut the same bytes one goes on after the other
compared : (one two : List (List ℕ)) (x y : List ℕ) → AreClean one → AreClean two → text_of one ++ x ≡ text_of two ++ y → GoesOn one two x y ⊎ GoesOn two one y x
compared [] two x y c d same = inl (two, refl, same)
compared (t ∷ one) [] x y c d same = inr (t ∷ one, refl, sym same)
compared (t ∷ one) (u ∷ two) x y c d same =
    let joined : t ++ 10 ∷ (text_of one ++ x) ≡ u ++ 10 ∷ (text_of two ++ y) = sym (append_assoc t (10 ∷ text_of one) x) ∙ same ∙ append_assoc u (10 ∷ text_of two) y in
    let cut = one_cut t u (text_of one ++ x) (text_of two ++ y) c.0 d.0 joined in
    elim (compared one two x y c.1 d.1 cut.1) [
      | inl on ↦ inl (on.0, ap₂ (λ (h : List ℕ) (l : List (List ℕ)). h ∷ l) (sym cut.0) on.1, on.2)
      | inr on ↦ inr (on.0, ap₂ (λ (h : List ℕ) (l : List (List ℕ)). h ∷ l) cut.0 on.1, on.2)
    ]

-- After a list's first bad line no list goes on.
module _ (bytes : List ℕ) (k : ℕ) (bad : IsBadLine bytes k) (texts : List (List ℕ)) (lines : List LineParts) (y : List ℕ) (good : Begins texts lines) where
  ends_there : (more : List (List ℕ)) → texts ≡ bad.texts ++ more → bad.rest ≡ text_of more ++ y → (texts ≡ bad.texts) × (bad.rest ≡ y)
  ends_there [] is rest = (is ∙ append-nil bad.texts, rest)
  ends_there (t ∷ more) is rest =
      let split : texts ≡ (bad.texts ++ t ∷ []) ++ more = is ∙ sym (append_assoc bad.texts (t ∷ []) more) in
      let prefix = begins_prefix (bad.texts ++ t ∷ []) more lines (subst (λ (l : List (List ℕ)). Begins l lines) split good) in
      absurd (bad.bad t (text_of more ++ y) prefix.0 (rest ∙ append_assoc t (10 ∷ text_of more) y) prefix.1)

one_bad_line : (bytes : List ℕ) (j k : ℕ) → IsBadLine bytes j → IsBadLine bytes k → j ≡ k
one_bad_line bytes j k one two =
    elim (compared one.texts two.texts one.rest two.rest (clean one.texts one.lines one.good.read) (clean two.texts two.lines two.good.read) (sym one.whole ∙ two.whole)) [
      | inl on ↦ let same = ends_there bytes j one two.texts two.lines two.rest two.good on.0 on.1 on.2 in sym one.place ∙ ap length (sym same.0) ∙ two.place
      | inr on ↦ let same = ends_there bytes k two one.texts one.lines one.rest one.good on.0 on.1 on.2 in sym one.place ∙ ap length same.0 ∙ two.place
    ]

none_more : (more : List (List ℕ)) (y : List ℕ) → [] ≡ text_of more ++ y → (more ≡ []) × (y ≡ [])
none_more [] y is = (refl, sym is)
none_more (t ∷ more) y is =
    let size : 0 ≡ length ((t ++ 10 ∷ text_of more) ++ y) = ap length is in
    let one = length-append (t ++ 10 ∷ text_of more) y in
    let two = length-append t (10 ∷ text_of more) in
    absurd (omega arith)

no_bad_line : (bytes : List ℕ) (lines : List LineParts) (k : ℕ) → IsList bytes lines → IsBadLine bytes k → ⊥
no_bad_line bytes lines k list bad =
    let count = as_many list.0 lines list.3.read in
    let some = list.2 in
    let place = bad.place in
    elim (compared bad.texts list.0 bad.rest [] (clean bad.texts bad.lines bad.good.read) (clean list.0 lines list.3.read) (sym bad.whole ∙ list.1 ∙ sym (append-nil (text_of list.0)))) [
      | inl on ↦
          let same = ends_there bytes k bad list.0 lines [] list.3 on.0 on.1 on.2 in
          let long : length list.0 ≡ length bad.texts = ap length same.0 in
          bad.there (omega arith) same.1
      | inr on ↦
          let none = none_more on.0 bad.rest on.2 in
          let long : length bad.texts ≡ length list.0 = ap length (on.1 ∙ ap (λ (l : List (List ℕ)). list.0 ++ l) none.0 ∙ append-nil list.0) in
          bad.there (omega arith) none.1
    ]

same_lines : (one two : List (List ℕ)) (xs ys : List LineParts) → one ≡ two → lines_of one ≡ Some xs → lines_of two ≡ Some ys → xs ≡ ys
same_lines one two xs ys same first second =
    let both : Some xs ≡ Some ys = sym first ∙ ap lines_of same ∙ second in cc

one_list : (bytes : List ℕ) (xs ys : List LineParts) → IsList bytes xs → IsList bytes ys → xs ≡ ys
one_list bytes xs ys one two =
    elim (compared one.0 two.0 [] [] (clean one.0 xs one.3.read) (clean two.0 ys two.3.read) (append-nil (text_of one.0) ∙ sym one.1 ∙ two.1 ∙ sym (append-nil (text_of two.0)))) [
      | inl on ↦
          let none = none_more on.0 [] on.2 in
          let same : one.0 ≡ two.0 = sym (on.1 ∙ ap (λ (l : List (List ℕ)). one.0 ++ l) none.0 ∙ append-nil one.0) in
          same_lines one.0 two.0 xs ys same one.3.read two.3.read
      | inr on ↦
          let none = none_more on.0 [] on.2 in
          let same : one.0 ≡ two.0 = on.1 ∙ ap (λ (l : List (List ℕ)). two.0 ++ l) none.0 ∙ append-nil two.0 in
          same_lines one.0 two.0 xs ys same one.3.read two.3.read
    ]

-- ## There is a reading

abbrev Goes : ℕ → List LineParts → List ℕ → Type 0
Goes seen lines rest = NextLine seen lines rest None ⊎ ((line : LineParts) × (suffix : List ℕ) × NextLine seen lines rest (Some (line, suffix)))

less : (a b : ℕ) → (a < b) ⊎ (b ≤ a)
less a b = elim (ltb a b) as (λ (v : Bool). ltb a b ≡ v → (a < b) ⊎ (b ≤ a)) [ true ↦ λ e. inl (ltb-true a b e) | false ↦ λ e. inr (ltb-false a b e) ] refl

module _ (seen : ℕ) (lines : List LineParts) (rest text suffix : List ℕ) (cut : IsCut rest text suffix) where
  by_new : (line : LineParts) (b : Bool) → NextLine seen lines rest (cond b (Some (line, suffix)) None) → Goes seen lines rest
  by_new line true next = inr (line, suffix, next)
  by_new line false next = inl next

  by_line : length lines < 256 → seen + length text < 1048576 → (o : Option LineParts) → o ≡ line_of text → Goes seen lines rest
  by_line few short None is = inl (no_line seen lines rest text suffix cut is)
  by_line few short (Some line) is = by_new line (is_new line lines) (judged seen lines rest text suffix cut line is few short)

  goes_cut : Goes seen lines rest
  goes_cut = elim (less (length lines) 256) [
    | inl few ↦ elim (less (seen + length text) 1048576) [
      | inl short ↦ by_line few short (line_of text) refl
      | inr long ↦ inl (too_long seen lines rest text suffix cut long)
    ]
    | inr many ↦ inl (too_many seen lines rest text suffix cut many)
  ]

goes_at : (seen : ℕ) (lines : List LineParts) (rest : List ℕ) (o : Option ℕ) → position is_lf rest ≡ o → Goes seen lines rest
goes_at seen lines rest None is = inl (none_left seen lines rest (nowhere rest is))
goes_at seen lines rest (Some i) is = let cut = cut_there rest i is in goes_cut seen lines rest _ _ cut

ended : (n : ℕ) (rest : List ℕ) → ((0 < n) × (rest ≡ [])) ⊎ (0 < n → rest ≢ [])
ended zero rest = inr (λ some. absurd (omega arith))
ended (suc n) [] = inl (omega arith, refl)
ended (suc n) (b ∷ rest) = inr (λ some none. absurd (cc))

reads : (fuel : ℕ) (bytes : List ℕ) (lines : List LineParts) (rest : List ℕ) → Stands bytes lines rest → length lines + fuel ≡ 257 → HasReading bytes
reads zero bytes lines rest stands count = let most = at_most bytes lines rest stands in absurd (omega arith)
reads (suc fuel) bytes lines rest stands count = elim (ended (length lines) rest) [
  | inl ends ↦ inl (lines, whole_list bytes lines rest (length lines) stands refl ends.0 ends.1)
  | inr there ↦ elim (goes_at (length bytes - length rest) lines rest (position is_lf rest) refl) [
    | inl none ↦ inr (length lines, bad_line bytes lines rest (length lines) stands refl there none)
    | inr on ↦
        let long : length (lines ++ on.0 ∷ []) ≡ length lines + 1 = length-append lines (on.0 ∷ []) in
        reads fuel bytes (lines ++ on.0 ∷ []) on.1 (next_stands bytes lines rest on.0 on.1 stands on.2) (omega arith)
  ]
]

pub some_reading : (bytes : List ℕ) → HasReading bytes
some_reading bytes = reads 257 bytes [] bytes (at_start bytes) refl

pub one_reading : OneReading
one_reading = record { no_bad_line = no_bad_line; one_bad_line = one_bad_line; one_list = one_list }
