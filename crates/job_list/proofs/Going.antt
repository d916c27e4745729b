-- How a list of jobs goes on by one line.
use Rattle.std.proofs.Common.{◌≡◌, ◌∙◌, ℕ, suc, ◌+◌, ◌||◌, ◌&&◌, not, Bool, true, false, List, [], ◌∷◌, ◌++◌, length, Option, Some, None, refl, sym, ap, ap₂, arith, append_assoc, length-append, append-nil}
use Rattle.std.proofs.lemmas.List.Folds.{list_any-append, list_all-append}
use Rattle.std.specs.List.{list_all, list_any}
use Rattle.std.specs.Str.{bytes_eq}
use Rattle.plain_words.specs.Distinct.{are_distinct}
use Rattle.job_list.specs.Apart.{Follows, are_apart, is_new}
use Rattle.job_list.specs.Lines.{LineParts, line_of}
use Rattle.job_list.specs.Lists.{Begins, lines_of, one_more, text_of, written, written_by}

-- the jobs, and one job after them
abbrev with_last : Option (List LineParts) → Option LineParts → Option (List LineParts)
with_last (Some lines) (Some line) = Some (lines ++ line ∷ [])
with_last _ _ = None

more_and_last : (a : Option LineParts) (b : Option (List LineParts)) (c : Option LineParts) → one_more a (with_last b c) ≡ with_last (one_more a b) c
more_and_last None None None = refl
more_and_last None None (Some line) = refl
more_and_last None (Some lines) None = refl
more_and_last None (Some lines) (Some line) = refl
more_and_last (Some first) None None = refl
more_and_last (Some first) None (Some line) = refl
more_and_last (Some first) (Some lines) None = refl
more_and_last (Some first) (Some lines) (Some line) = refl

alone : (a : Option LineParts) → one_more a (Some []) ≡ with_last (Some []) a
alone None = refl
alone (Some line) = refl

last_of : (texts : List (List ℕ)) (text : List ℕ) → lines_of (texts ++ text ∷ []) ≡ with_last (lines_of texts) (line_of text)
last_of [] text = alone (line_of text)
last_of (first ∷ texts) text = ap (one_more (line_of first)) (last_of texts text) ∙ more_and_last (line_of first) (lines_of texts) (line_of text)

last_is : (o : Option LineParts) (lines more : List LineParts) → with_last (Some lines) o ≡ Some more → (line : LineParts) × (o ≡ Some line) × (more ≡ lines ++ line ∷ [])
last_is None lines more is = absurd (cc)
last_is (Some line) lines more is = (line, refl, cc)

-- as many jobs as texts
one_longer : (a : Option LineParts) (b : Option (List LineParts)) (lines : List LineParts) → one_more a b ≡ Some lines → (later : List LineParts) × (b ≡ Some later) × (length lines ≡ suc (length later))
one_longer None None lines is = absurd (cc)
one_longer None (Some later) lines is = absurd (cc)
one_longer (Some line) None lines is = absurd (cc)
one_longer (Some line) (Some later) lines is = (later, refl, let same : line ∷ later ≡ lines = cc in ap length (sym same))

pub as_many : (texts : List (List ℕ)) (lines : List LineParts) → lines_of texts ≡ Some lines → length lines ≡ length texts
as_many [] lines is = let same : ◌≡◌ {A = List LineParts} [] lines = cc in ap length (sym same)
as_many (text ∷ texts) lines is =
    let next = one_longer (line_of text) (lines_of texts) lines is in
    next.2 ∙ ap suc (as_many texts next.0 next.1)

-- the bytes, and those of one line more
pub text_more : (texts : List (List ℕ)) (text rest : List ℕ) → text_of texts ++ (text ++ 10 ∷ rest) ≡ text_of (texts ++ text ∷ []) ++ rest
text_more [] text rest = sym (append_assoc text (10 ∷ []) rest)
text_more (first ∷ texts) text rest =
    append_assoc first (10 ∷ text_of texts) (text ++ 10 ∷ rest)
    ∙ ap (λ (l : List ℕ). first ++ 10 ∷ l) (text_more texts text rest)
    ∙ sym (append_assoc first (10 ∷ text_of (texts ++ text ∷ [])) rest)

longer : (texts : List (List ℕ)) (text : List ℕ) → length (text_of (texts ++ text ∷ [])) ≡ length (text_of texts) + length text + 1
longer [] text = simp length-append (omega arith)
longer (first ∷ texts) text = let later = longer texts text in simp length-append (omega arith)

-- texts that differ from one another, and others after them
four : (a b c d e : Bool) → (not (a || b) && (c && (d && e))) ≡ ((not a && c) && (d && (not b && e)))
four true b c d e = refl
four false true true true e = refl
four false true true false e = refl
four false true false d e = refl
four false false true d e = refl
four false false false d e = refl

pub apart_after : (xs ys : List (List ℕ)) → are_distinct (xs ++ ys) ≡ (are_distinct xs && (are_distinct ys && are_apart xs ys))
apart_after [] ys = elim (are_distinct ys) as (λ v. v ≡ (v && true)) [ true ↦ refl | false ↦ refl ]
apart_after (x ∷ xs) ys =
    ap₂ (λ (a b : Bool). not a && b) (list_any-append (bytes_eq x) xs ys) (apart_after xs ys)
    ∙ four (list_any (bytes_eq x) xs) (list_any (bytes_eq x) ys) (are_distinct xs) (are_distinct ys) (are_apart xs ys)

written_more : (lines : List LineParts) (line : LineParts) → written (lines ++ line ∷ []) ≡ written lines ++ written_by line
written_more [] line = append-nil (written_by line)
written_more (first ∷ lines) line = ap (λ (l : List (List ℕ)). written_by first ++ l) (written_more lines line) ∙ sym (append_assoc (written_by first) (written lines) (written_by line))

apart_by_lines : (lines : List LineParts) (ys : List (List ℕ)) → are_apart (written lines) ys ≡ list_all (λ e. are_apart (written_by e) ys) lines
apart_by_lines [] ys = refl
apart_by_lines (first ∷ lines) ys =
    list_all-append (λ text. not (list_any (bytes_eq text) ys)) (written_by first) (written lines)
    ∙ ap (λ (b : Bool). are_apart (written_by first) ys && b) (apart_by_lines lines ys)

new_after : (lines : List LineParts) (line : LineParts) → are_distinct (written (lines ++ line ∷ [])) ≡ (are_distinct (written lines) && is_new line lines)
new_after lines line =
    ap are_distinct (written_more lines line) ∙ apart_after (written lines) (written_by line)
    ∙ ap (λ (b : Bool). are_distinct (written lines) && (are_distinct (written_by line) && b)) (apart_by_lines lines (written_by line))

both : (a b : Bool) → a ≡ true → b ≡ true → (a && b) ≡ true
both a b one two = ap₂ (λ (x y : Bool). x && y) one two

second : (a b : Bool) → a ≡ true → (a && b) ≡ true → b ≡ true
second true b one two = two
second false b one two = absurd (cc)

-- The list goes on by a line that follows.
pub goes_on : (seen : ℕ) (texts : List (List ℕ)) (lines : List LineParts) (text : List ℕ) (line : LineParts) → seen ≡ length (text_of texts) → Begins texts lines → Follows seen lines text line → Begins (texts ++ text ∷ []) (lines ++ line ∷ [])
goes_on seen texts lines text line place good next =
    let count = as_many texts lines good.read in
    record {
      read = last_of texts text ∙ ap₂ with_last good.read next.read;
      few = simp length-append (omega (arith, next.few));
      short = omega (arith, longer texts text, next.short);
      apart = new_after lines line ∙ both (are_distinct (written lines)) (is_new line lines) good.apart next.new;
    }

-- If it goes on, then by a line that follows.
pub went_on : (seen : ℕ) (texts : List (List ℕ)) (lines more : List LineParts) (text : List ℕ) → seen ≡ length (text_of texts) → Begins texts lines → Begins (texts ++ text ∷ []) more → (line : LineParts) × Follows seen lines text line
went_on seen texts lines more text place good next =
    let last = last_is (line_of text) lines more (ap (λ (o : Option (List LineParts)). with_last o (line_of text)) (sym good.read) ∙ sym (last_of texts text) ∙ next.read) in
    let count = as_many texts lines good.read in
    let long : length (texts ++ text ∷ []) ≡ length texts + 1 = simp length-append in (
      last.0,
      record {
        read = last.1;
        few = omega (arith, next.few);
        short = omega (arith, longer texts text, next.short);
        new = second (are_distinct (written lines)) (is_new last.0 lines) good.apart
            (sym (new_after lines last.0) ∙ ap (λ (l : List LineParts). are_distinct (written l)) (sym last.2) ∙ next.apart);
      },
    )
