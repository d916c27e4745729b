-- Where lines end: the lines of a text, and that each line of a set is one.
use Rattle.std.proofs.Common.{◌≡◌, ◌≢◌, ℕ, suc, ◌+◌, ◌*◌, ◌<◌, ◌≤◌, Bool, true, false, ◌&&◌, not, nat_eq, List, [], ◌∷◌, ◌++◌, length, take, drop, get_or, refl, sym, ap, ◌∙◌, subst, inl, inr, arith, append_assoc}
use Rattle.std.specs.Prelude.{codes}
use Rattle.std.specs.Fmt.{decimal}
use Rattle.std.specs.List.{All, flat_map}
use Rattle.std.proofs.lemmas.Bool.{cases_eq, cases_Bool, and_parts, eqb-true, eq-eqb, both_ways, not-true}
use Rattle.std.proofs.lemmas.Fmt.{length-decimal-le}
use Rattle.std.proofs.lemmas.List.{length-append}
use Rattle.std.proofs.lemmas.List.Concat.{flat_map-cons}
use Rattle.std.proofs.lemmas.List.Elements.{All-nil, All-cons, All-append, All-from_get_or}
use Rattle.trap_set.specs.Bytes.{IsShortLine, most_line}
use Rattle.trap_set.specs.Lines.{IsLine, HasNoEnd, before_first, lines_of}
use Rattle.trap_set.specs.Numbers.{past_numbers}
use Rattle.trap_set.specs.Runs.{Run}
use Rattle.trap_set.specs.SetText.{SetHead, IsHead, IsRun, number, title_line, page_line, run_line, end_line}
use Rattle.trap_set.proofs.LineLemmas.{sides_of, page_words, run_words, numbers_of, short_head, short_run}
use Rattle.trap_set.proofs.NumberLemmas.{decimal_digits, digit_range, AreDigits}

abbrev no_end : ℕ → Type 0
no_end b = b ≢ 10

-- the lines of a text that begins with one
other_byte : (b : ℕ) → b ≢ 10 → nat_eq b 10 ≡ false
other_byte b ne = elim (cases_Bool (nat_eq b 10)) [ inl t ↦ absurd (ne (eqb-true b 10 t)) | inr f ↦ f ]

rest_of : (b : ℕ) (text : List ℕ) → HasNoEnd (b ∷ text) → HasNoEnd text
rest_of b text h k d l = h (suc k) d (omega arith)

first_line : (text rest : List ℕ) → HasNoEnd text → lines_of ((text ++ 10 ∷ []) ++ rest) ≡ (text ++ 10 ∷ []) ∷ lines_of rest
first_line [] rest h = refl
first_line (b ∷ text) rest h = rw (other_byte b (h 0 0 (omega arith))) (ap (before_first b) (first_line text rest (rest_of b text h)))

pub lines_of_line : (line rest : List ℕ) → IsLine line → lines_of (line ++ rest) ≡ line ∷ lines_of rest
lines_of_line line rest h = subst (λ (l : List ℕ). lines_of (l ++ rest) ≡ l ∷ lines_of rest) (sym h.is) (first_line h.text rest h.one)

abbrev pub joined : List (List ℕ) → List ℕ
joined lines = flat_map (λ line. line) lines

pub joined_cons : (line : List ℕ) (lines : List (List ℕ)) → joined (line ∷ lines) ≡ line ++ joined lines
joined_cons line lines = flat_map-cons (λ (l : List ℕ). l) line lines

pub lines_of_lines : (lines : List (List ℕ)) (rest : List ℕ) → All IsLine lines → lines_of (joined lines ++ rest) ≡ lines ++ lines_of rest
lines_of_lines [] rest h = refl
lines_of_lines (line ∷ lines) rest h =
    ap (λ (t : List ℕ). lines_of (t ++ rest)) (joined_cons line lines) ∙ ap lines_of (append_assoc line (joined lines) rest)
    ∙ lines_of_line line (joined lines ++ rest) (h 0 [] (omega arith)) ∙ ap (λ (ls : List (List ℕ)). line ∷ ls) (lines_of_lines lines rest (λ k d l. h (suc k) d (omega arith)))

-- a text without an end is one line
pub lone_line : (text : List ℕ) → HasNoEnd text → lines_of text ≡ text ∷ []
lone_line [] h = refl
lone_line (b ∷ text) h = rw (other_byte b (h 0 0 (omega arith))) (ap (before_first b) (lone_line text (rest_of b text h)))

-- the first line of a text, where it has its LF, stands at the text's beginning
first_there : (b : ℕ) (l : List ℕ) (bytes text : List ℕ) → b ≢ 10 → b ∷ l ≡ text ++ 10 ∷ [] → ((t : List ℕ) → l ≡ t ++ 10 ∷ [] → (more : List ℕ) × (bytes ≡ (t ++ 10 ∷ []) ++ more)) → (more : List ℕ) × (b ∷ bytes ≡ (text ++ 10 ∷ []) ++ more)
first_there b l bytes [] ne e later = absurd (ne (ap (λ (xs : List ℕ). get_or xs 0 0) e))
first_there b l bytes (c ∷ t) ne e later =
    let found = later t (ap (λ (xs : List ℕ). drop 1 xs) e) in
    let same : b ≡ c = ap (λ (xs : List ℕ). get_or xs 0 0) e in
    (found.0, ap (λ (k : ℕ). k ∷ bytes) same ∙ ap (λ (xs : List ℕ). c ∷ xs) found.1)

no_more : (t : List ℕ) → [] ≡ t ++ 10 ∷ [] → ⊥
no_more t z = omega (arith, ap (length {A = ℕ}) z, length-append t (10 ∷ []))

pub prefix_by : (bytes text : List ℕ) (ls : List (List ℕ)) → lines_of bytes ≡ (text ++ 10 ∷ []) ∷ ls → (more : List ℕ) × (bytes ≡ (text ++ 10 ∷ []) ++ more)
prefix_by [] text ls e = absurd (no_more text (ap (λ (xs : List (List ℕ)). get_or xs 0 []) e))
prefix_by (b ∷ bytes) text ls e = elim (cases_eq b 10) [
  | inl is ↦ (
      let lf : (10 ∷ []) ∷ lines_of bytes ≡ (text ++ 10 ∷ []) ∷ ls = subst (λ (c : ℕ). lines_of (c ∷ bytes) ≡ (text ++ 10 ∷ []) ∷ ls) is e in
      (bytes, ap (λ (c : ℕ). c ∷ bytes) is ∙ ap (λ (xs : List (List ℕ)). get_or xs 0 [] ++ bytes) lf))
  | inr ne ↦ inner (lines_of bytes) refl (rw (other_byte b ne) at e) ne (λ t xs f. prefix_by bytes t xs f)
] where
  inner : (xs : List (List ℕ)) → lines_of bytes ≡ xs → before_first b xs ≡ (text ++ 10 ∷ []) ∷ ls → b ≢ 10 → ((t : List ℕ) (ls2 : List (List ℕ)) → lines_of bytes ≡ (t ++ 10 ∷ []) ∷ ls2 → (more : List ℕ) × (bytes ≡ (t ++ 10 ∷ []) ++ more)) → (more : List ℕ) × (b ∷ bytes ≡ (text ++ 10 ∷ []) ++ more)
  inner [] is f ne later = first_there b [] bytes text ne (ap (λ (ys : List (List ℕ)). get_or ys 0 []) f) (λ t z. absurd (no_more t z))
  inner (l ∷ xs) is f ne later = first_there b l bytes text ne (ap (λ (ys : List (List ℕ)). get_or ys 0 []) f) (λ t z. later t xs (is ∙ ap (λ (y : List ℕ). y ∷ xs) z))

pub prefix_line : (bytes line : List ℕ) (ls : List (List ℕ)) → IsLine line → lines_of bytes ≡ line ∷ ls → (more : List ℕ) × (bytes ≡ line ++ more)
prefix_line bytes line ls h e =
    let found = prefix_by bytes h.text ls (e ∙ ap (λ (l : List ℕ). l ∷ ls) h.is) in
    (found.0, found.1 ∙ ap (λ (l : List ℕ). l ++ found.0) (sym h.is))

-- no text is without a line
pub some_line : (bytes : List ℕ) → (line : List ℕ) × (ls : List (List ℕ)) × (lines_of bytes ≡ line ∷ ls)
some_line [] = ([], [], refl)
some_line (b ∷ bytes) = elim (cases_Bool (nat_eq b 10)) [
  | inl t ↦ rw t (10 ∷ [], lines_of bytes, ap (λ (c : ℕ). (c ∷ []) ∷ lines_of bytes) (eqb-true b 10 t))
  | inr f ↦ rw f (let later = some_line bytes in (b ∷ later.0, later.1, ap (before_first b) later.2))
]

pub first_of_lines : (bytes line : List ℕ) → IsLine line → take 1 (lines_of bytes) ≡ line ∷ [] → (more : List ℕ) × (bytes ≡ line ++ more)
first_of_lines bytes line h e =
    let some = some_line bytes in
    let same : some.0 ≡ line = ap (λ (xs : List (List ℕ)). get_or xs 0 []) (sym (ap (take 1) some.2) ∙ e) in
    prefix_line bytes line some.1 h (some.2 ∙ ap (λ (l : List ℕ). l ∷ some.1) same)

-- a text of one line that is empty is empty
pub nothing_left : (bytes : List ℕ) (ls : List (List ℕ)) → lines_of bytes ≡ [] ∷ ls → bytes ≡ []
nothing_left [] ls e = refl
nothing_left (b ∷ bytes) ls e = absurd (elim (cases_Bool (nat_eq b 10)) [
  | inl t ↦ (let f : (b ∷ []) ∷ lines_of bytes ≡ [] ∷ ls = rw t at e in omega (arith, ap (λ (xs : List (List ℕ)). length (get_or xs 0 [])) f))
  | inr n ↦ (
      let later = some_line bytes in
      let f : before_first b (lines_of bytes) ≡ [] ∷ ls = rw n at e in
      let g : (b ∷ later.0) ∷ later.1 ≡ [] ∷ ls = sym (ap (before_first b) later.2) ∙ f in
      omega (arith, ap (λ (xs : List (List ℕ)). length (get_or xs 0 [])) g))
])

-- two lines at the beginning of a text are one
pub same_line : (a b r s : List ℕ) → IsLine a → IsLine b → a ++ r ≡ b ++ s → a ≡ b
same_line a b r s one other e =
    ap (λ (xs : List (List ℕ)). get_or xs 0 []) (sym (lines_of_line a r one) ∙ ap lines_of e ∙ lines_of_line b s other)

-- the words of a line have no end
abbrev no_ends : List ℕ → Bool
no_ends [] = true
no_ends (b ∷ bytes) = not (nat_eq b 10) && no_ends bytes

have_no_end : (bytes : List ℕ) → no_ends bytes ≡ true → HasNoEnd bytes
have_no_end [] e = All-nil no_end
have_no_end (b ∷ bytes) e =
    let parts = and_parts (not (nat_eq b 10)) (no_ends bytes) e in
    All-cons no_end b bytes (λ is. both_ways (nat_eq b 10) (not-true _ parts.0) (eq-eqb b 10 is)) (have_no_end bytes parts.1)

digits_no_end : (ds : List ℕ) → AreDigits ds → HasNoEnd ds
digits_no_end ds h = All-from_get_or no_end ds 0 (λ i l is. omega (arith, (digit_range ds i h l).0, is))

pub number_no_end : (n : ℕ) → n < past_numbers → HasNoEnd (number n)
number_no_end n l = All-cons no_end 32 (decimal n) (λ is. omega (arith, is)) (digits_no_end (decimal n) (decimal_digits n (omega (arith, l))))

number_short : (n : ℕ) → n < past_numbers → length (number n) ≤ 6
number_short n l = omega (arith, length-decimal-le 5 n (omega arith) (omega (arith, l)) (omega (arith, l)))

pub numbers_no_end : (ns : List ℕ) → All (λ n. n < past_numbers) ns → HasNoEnd (flat_map number ns)
numbers_no_end [] h = All-nil no_end
numbers_no_end (n ∷ ns) h = subst HasNoEnd (sym (flat_map-cons number n ns))
    (All-append no_end (number n) (flat_map number ns) (number_no_end n (h 0 0 (omega arith))) (numbers_no_end ns (λ k d l. h (suc k) d (omega arith))))

pub numbers_short : (ns : List ℕ) → All (λ n. n < past_numbers) ns → length (flat_map number ns) ≤ 6 * length ns
numbers_short [] h = omega arith
numbers_short (n ∷ ns) h =
    omega (arith, ap (length {A = ℕ}) (flat_map-cons number n ns), length-append (number n) (flat_map number ns), number_short n (h 0 0 (omega arith)), numbers_short ns (λ k d l. h (suc k) d (omega arith)))

-- a line of these words
line_by : (line text : List ℕ) → line ≡ text ++ 10 ∷ [] → HasNoEnd text → length text + 1 ≤ most_line → IsShortLine line
line_by line text is none few = (record { text = text; is = is; one = none }, omega (arith, ap (length {A = ℕ}) is, length-append text (10 ∷ []), few))

pub title_is_line : IsShortLine title_line
title_is_line = line_by title_line (codes "trap set") refl (have_no_end (codes "trap set") refl) (omega arith)

pub end_is_line : IsShortLine end_line
end_is_line = line_by end_line (codes "end") refl (have_no_end (codes "end") refl) (omega arith)

page_end : (p s q c e : List ℕ) → p ++ (s ++ (q ++ (c ++ e))) ≡ (p ++ (s ++ (q ++ c))) ++ e
page_end p s q c e = simp append_assoc

sides_below : (head : SetHead) → IsHead head → All (λ n. n < past_numbers) (sides_of head)
sides_below head h =
    let short = short_head head h in
    let P : ℕ → Type 0 = λ n. n < past_numbers in
    All-cons P head.width (head.height ∷ head.maxval ∷ []) short.width (All-cons P head.height (head.maxval ∷ []) short.height (All-cons P head.maxval [] short.maxval (All-nil P)))

plates_below : (head : SetHead) → IsHead head → All (λ n. n < past_numbers) (head.plates ∷ [])
plates_below head h = All-cons (λ n. n < past_numbers) head.plates [] (short_head head h).plates (All-nil (λ n. n < past_numbers))

pub page_is_line : (head : SetHead) → IsHead head → IsShortLine (page_line head)
page_is_line head h =
    let sides = flat_map number (sides_of head) in
    let count = flat_map number (head.plates ∷ []) in
    let text = codes "page" ++ (sides ++ (codes " plates" ++ count)) in
    line_by (page_line head) text (page_words head ∙ page_end (codes "page") sides (codes " plates") count (10 ∷ []))
    (All-append no_end (codes "page") (sides ++ (codes " plates" ++ count)) (have_no_end (codes "page") refl)
    (All-append no_end sides (codes " plates" ++ count) (numbers_no_end (sides_of head) (sides_below head h))
    (All-append no_end (codes " plates") count (have_no_end (codes " plates") refl) (numbers_no_end (head.plates ∷ []) (plates_below head h)))))
    (omega (arith, length-append (codes "page") (sides ++ (codes " plates" ++ count)), length-append sides (codes " plates" ++ count), length-append (codes " plates") count, numbers_short (sides_of head) (sides_below head h), numbers_short (head.plates ∷ []) (plates_below head h)))

pub run_below : (head : SetHead) (run : Run) → IsHead head → IsRun head run → All (λ n. n < past_numbers) (numbers_of run)
run_below head run h is =
    let short = short_run head run (head.plates + 3) h is refl in
    let P : ℕ → Type 0 = λ n. n < past_numbers in
    All-cons P run.y (run.x ∷ run.count ∷ run.tints) short.place.0 (All-cons P run.x (run.count ∷ run.tints) short.place.1 (All-cons P run.count run.tints short.place.2 short.tints))

pub run_is_line : (head : SetHead) (run : Run) → IsHead head → IsRun head run → IsShortLine (run_line run)
run_is_line head run h is =
    let words = flat_map number (numbers_of run) in
    line_by (run_line run) (codes "run" ++ words) (run_words run ∙ sym (append_assoc (codes "run") words (10 ∷ [])))
    (All-append no_end (codes "run") words (have_no_end (codes "run") refl) (numbers_no_end (numbers_of run) (run_below head run h is)))
    (omega (arith, length-append (codes "run") words, numbers_short (numbers_of run) (run_below head run h is), is.one_each, h.few_plates))
