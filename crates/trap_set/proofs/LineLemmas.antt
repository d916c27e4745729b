-- The words of a line: what is read from it is what it was written from.
use Rattle.std.proofs.Common.{◌≡◌, ℕ, suc, ◌+◌, ◌<◌, ◌≤◌, List, [], ◌∷◌, ◌++◌, length, get_or, refl, sym, ap, ◌∙◌, arith, append_assoc}
use Rattle.std.specs.Prelude.{codes}
use Rattle.std.specs.List.{All, flat_map}
use Rattle.std.proofs.lemmas.List.{append-nil, append_cancel_left}
use Rattle.std.proofs.lemmas.List.Concat.{flat_map-cons}
use Rattle.std.proofs.lemmas.List.Elements.{All-nil, All-cons}
use Rattle.trap_set.specs.Numbers.{BeginsNumbers, past_numbers}
use Rattle.trap_set.specs.Reading.{AreShort, IsShortRun, run_in}
use Rattle.trap_set.specs.Runs.{Run}
use Rattle.trap_set.specs.SetText.{SetHead, IsHead, IsRun, number, page_line, run_line}
use Rattle.trap_set.proofs.NumberLemmas.{after_number, first_number}

-- the first of some numbers, and the others
first_of : (text : List ℕ) (n : ℕ) (ns s : List ℕ) → BeginsNumbers text (n ∷ ns) s → BeginsNumbers text (n ∷ []) (flat_map number ns ++ s)
first_of text n ns s h = record {
  whole = h.whole ∙ ap (λ (t : List ℕ). t ++ s) (flat_map-cons number n ns) ∙ append_assoc (number n) (flat_map number ns) s ∙ ap (λ (t : List ℕ). t ++ (flat_map number ns ++ s)) (sym (append-nil (number n)) ∙ sym (flat_map-cons number n []));
  below = All-cons (λ (k : ℕ). k < past_numbers) n [] (h.below 0 0 (omega arith)) (All-nil (λ (k : ℕ). k < past_numbers));
  ends = after_number ns s h.ends;
}

others_of : (text : List ℕ) (n : ℕ) (ns s : List ℕ) → BeginsNumbers text (n ∷ ns) s → BeginsNumbers (flat_map number ns ++ s) ns s
others_of text n ns s h = record { whole = refl; below = λ k d l. h.below (suc k) d (omega arith); ends = h.ends }

-- a text begins with so many numbers in one way at most
pub same_numbers : (ms ns : List ℕ) (text r s : List ℕ) → length ms ≡ length ns → BeginsNumbers text ms r → BeginsNumbers text ns s → (ms ≡ ns) × (r ≡ s)
same_numbers [] [] text r s as_many one other = (refl, sym one.whole ∙ other.whole)
same_numbers [] (n ∷ ns) text r s as_many one other = absurd (omega (arith, as_many))
same_numbers (m ∷ ms) [] text r s as_many one other = absurd (omega (arith, as_many))
same_numbers (m ∷ ms) (n ∷ ns) text r s as_many one other =
    let first = first_number text m (flat_map number ms ++ r) n ns s (first_of text m ms r one) other in
    let rest = same_numbers ms ns (flat_map number ms ++ r) r s (omega (arith, as_many)) (others_of text m ms r one) first.1 in
    (ap (λ (k : ℕ). k ∷ ms) first.0 ∙ ap (λ (ks : List ℕ). n ∷ ks) rest.0, rest.1)

-- the sides and the maxval of a page line
abbrev pub sides_of : SetHead → List ℕ
sides_of head = head.width ∷ head.height ∷ head.maxval ∷ []

-- the end of a page line after them, and after the word that follows
abbrev pub count_of : SetHead → List ℕ
count_of head = flat_map number (head.plates ∷ []) ++ 10 ∷ []

regrouped : (p a b c q n e : List ℕ) → ((((((p ++ a) ++ b) ++ c) ++ q) ++ n) ++ e) ≡ p ++ ((a ++ (b ++ (c ++ []))) ++ (q ++ ((n ++ []) ++ e)))
regrouped p a b c q n e = simp (append_assoc, append-nil)

pub page_words : (head : SetHead) → page_line head ≡ codes "page" ++ (flat_map number (sides_of head) ++ (codes " plates" ++ count_of head))
page_words head = regrouped (codes "page") (number head.width) (number head.height) (number head.maxval) (codes " plates") (number head.plates) (10 ∷ [])

all_three : (P : ℕ → Type 0) (a b c : ℕ) → P a → P b → P c → All P (a ∷ b ∷ c ∷ [])
all_three P a b c x y z = All-cons P a (b ∷ c ∷ []) x (All-cons P b (c ∷ []) y (All-cons P c [] z (All-nil P)))

pub begins_sides : (head : SetHead) (text : List ℕ) → AreShort head → text ≡ flat_map number (sides_of head) ++ (codes " plates" ++ count_of head) → BeginsNumbers text (sides_of head) (codes " plates" ++ count_of head)
begins_sides head text short is = record {
  whole = is;
  below = all_three (λ (k : ℕ). k < past_numbers) head.width head.height head.maxval short.width short.height short.maxval;
  ends = refl;
}

pub begins_count : (head : SetHead) (text : List ℕ) → AreShort head → text ≡ count_of head → BeginsNumbers text (head.plates ∷ []) (10 ∷ [])
begins_count head text short is = record {
  whole = is;
  below = All-cons (λ (k : ℕ). k < past_numbers) head.plates [] short.plates (All-nil (λ (k : ℕ). k < past_numbers));
  ends = refl;
}

-- a page line, as far as it was read
module _ (line : List ℕ) (head : SetHead) (short : AreShort head) (is : line ≡ page_line head) where
  pub after_page : (text : List ℕ) → line ≡ codes "page" ++ text → text ≡ flat_map number (sides_of head) ++ (codes " plates" ++ count_of head)
  after_page text e = append_cancel_left (codes "page") text _ (sym e ∙ is ∙ page_words head)

  pub sides_there : (text : List ℕ) → line ≡ codes "page" ++ text → BeginsNumbers text (sides_of head) (codes " plates" ++ count_of head)
  sides_there text e = begins_sides head text short (after_page text e)

  pub sides_same : (text numbers rest : List ℕ) → line ≡ codes "page" ++ text → length numbers ≡ 3 → BeginsNumbers text numbers rest → (numbers ≡ sides_of head) × (rest ≡ codes " plates" ++ count_of head)
  sides_same text numbers rest e three h = same_numbers numbers (sides_of head) text rest (codes " plates" ++ count_of head) three h (sides_there text e)

  pub count_there : (text numbers rest count : List ℕ) → line ≡ codes "page" ++ text → length numbers ≡ 3 → BeginsNumbers text numbers rest → rest ≡ codes " plates" ++ count → BeginsNumbers count (head.plates ∷ []) (10 ∷ [])
  count_there text numbers rest count e three h f = begins_count head count short (append_cancel_left (codes " plates") count (count_of head) (sym f ∙ (sides_same text numbers rest e three h).1))

  pub count_same : (text numbers rest count : List ℕ) (plates : ℕ) (end : List ℕ) → line ≡ codes "page" ++ text → length numbers ≡ 3 → BeginsNumbers text numbers rest → rest ≡ codes " plates" ++ count → BeginsNumbers count (plates ∷ []) end → (plates ≡ head.plates) × (end ≡ 10 ∷ [])
  count_same text numbers rest count plates end e three h f g =
      let same = same_numbers (plates ∷ []) (head.plates ∷ []) count end (10 ∷ []) refl g (count_there text numbers rest count e three h f) in
      (ap (λ (ks : List ℕ). get_or ks 0 0) same.0, same.1)

-- three numbers are their list
pub three : (xs : List ℕ) → length xs ≡ 3 → xs ≡ get_or xs 0 0 ∷ get_or xs 1 0 ∷ get_or xs 2 0 ∷ []
three [] e = absurd (omega (arith, e))
three (a ∷ []) e = absurd (omega (arith, e))
three (a ∷ b ∷ []) e = absurd (omega (arith, e))
three (a ∷ b ∷ c ∷ []) e = refl
three (a ∷ b ∷ c ∷ d ∷ xs) e = absurd (omega (arith, e))

-- what was read from a line, put together again
pub page_again : (head : SetHead) (line text numbers rest count end : List ℕ) → line ≡ codes "page" ++ text → BeginsNumbers text numbers rest → numbers ≡ sides_of head → rest ≡ codes " plates" ++ count → BeginsNumbers count (head.plates ∷ []) end → end ≡ 10 ∷ [] → line ≡ page_line head
page_again head line text numbers rest count end e h s f g z =
    e ∙ ap (λ (t : List ℕ). codes "page" ++ t) (h.whole ∙ ap (λ (ns : List ℕ). flat_map number ns ++ rest) s ∙ ap (λ (t : List ℕ). flat_map number (sides_of head) ++ t) (f ∙ ap (λ (t : List ℕ). codes " plates" ++ t) (g.whole ∙ ap (λ (t : List ℕ). flat_map number (head.plates ∷ []) ++ t) z)))
    ∙ sym (page_words head)

-- page lines of short numbers differ where their heads do
pub same_head : (a b : SetHead) → AreShort a → AreShort b → page_line a ≡ page_line b → a ≡ b
same_head a b short_a short_b is =
    let line = page_line a in
    let text = flat_map number (sides_of a) ++ (codes " plates" ++ count_of a) in
    let sides = sides_same line b short_b is text (sides_of a) (codes " plates" ++ count_of a) (page_words a) refl (begins_sides a text short_a refl) in
    let count = count_same line b short_b is text (sides_of a) (codes " plates" ++ count_of a) (count_of a) a.plates (10 ∷ []) (page_words a) refl (begins_sides a text short_a refl) refl (begins_count a (count_of a) short_a refl) in
    let w : a.width ≡ b.width = ap (λ (ns : List ℕ). get_or ns 0 0) sides.0 in
    let h : a.height ≡ b.height = ap (λ (ns : List ℕ). get_or ns 1 0) sides.0 in
    let m : a.maxval ≡ b.maxval = ap (λ (ns : List ℕ). get_or ns 2 0) sides.0 in
    let p : a.plates ≡ b.plates = count.0 in
    ap (λ (k : ℕ). let head : SetHead = record { width = k; height = a.height; maxval = a.maxval; plates = a.plates } in head) w
    ∙ ap (λ (k : ℕ). let head : SetHead = record { width = b.width; height = k; maxval = a.maxval; plates = a.plates } in head) h
    ∙ ap (λ (k : ℕ). let head : SetHead = record { width = b.width; height = b.height; maxval = k; plates = a.plates } in head) m
    ∙ ap (λ (k : ℕ). let head : SetHead = record { width = b.width; height = b.height; maxval = b.maxval; plates = k } in head) p

pub short_head : (head : SetHead) → IsHead head → AreShort head
short_head head h = record { width = omega (arith, h.narrow); height = omega (arith, h.low); maxval = omega (arith, h.maxval_fits); plates = omega (arith, h.few_plates) }

-- the numbers of a run's line
abbrev pub numbers_of : Run → List ℕ
numbers_of run = run.y ∷ run.x ∷ run.count ∷ run.tints

run_regrouped : (r a b c t e : List ℕ) → (((((r ++ a) ++ b) ++ c) ++ t) ++ e) ≡ r ++ ((a ++ (b ++ (c ++ t))) ++ e)
run_regrouped r a b c t e = simp append_assoc

pub run_words : (run : Run) → run_line run ≡ codes "run" ++ (flat_map number (numbers_of run) ++ 10 ∷ [])
run_words run = run_regrouped (codes "run") (number run.y) (number run.x) (number run.count) (flat_map number run.tints) (10 ∷ [])

pub begins_run : (count : ℕ) (run : Run) (text : List ℕ) → IsShortRun count run → text ≡ flat_map number (numbers_of run) ++ 10 ∷ [] → BeginsNumbers text (numbers_of run) (10 ∷ [])
begins_run count run text short is = record {
  whole = is;
  below = (let P : ℕ → Type 0 = λ k. k < past_numbers in All-cons P run.y (run.x ∷ run.count ∷ run.tints) short.place.0 (All-cons P run.x (run.count ∷ run.tints) short.place.1 (All-cons P run.count run.tints short.place.2 short.tints)));
  ends = refl;
}

pub run_there : (count : ℕ) (run : Run) (line text : List ℕ) → IsShortRun count run → line ≡ run_line run → line ≡ codes "run" ++ text → BeginsNumbers text (numbers_of run) (10 ∷ [])
run_there count run line text short is e = begins_run count run text short (append_cancel_left (codes "run") text _ (sym e ∙ is ∙ run_words run))

-- numbers make a run, and the run has them
pub again : (ns : List ℕ) → 3 ≤ length ns → ns ≡ numbers_of (run_in ns)
again [] l = absurd (omega (arith, l))
again (a ∷ []) l = absurd (omega (arith, l))
again (a ∷ b ∷ []) l = absurd (omega (arith, l))
again (a ∷ b ∷ c ∷ ns) l = refl

-- a run that a set of such a page line may have has short numbers
pub short_run : (head : SetHead) (run : Run) (count : ℕ) → IsHead head → IsRun head run → count ≡ head.plates + 3 → IsShortRun count run
short_run head run count h is e = record {
  as_many = omega (arith, is.one_each, e);
  place = (omega (arith, is.in_rows, h.low), omega (arith, is.in_row, is.some, h.narrow), omega (arith, is.in_row, h.narrow));
  tints = λ k d l. omega (arith, is.below k d l, h.maxval_fits);
}

-- the line of a run is that of no other
pub same_run : (ns : List ℕ) (run : Run) (count : ℕ) → length ns ≡ count → 3 ≤ count → All (λ n. n < past_numbers) ns → IsShortRun count run → run_line (run_in ns) ≡ run_line run → run_in ns ≡ run
same_run ns run count as_many three_at_least below short is =
    let text = flat_map number (numbers_of (run_in ns)) ++ 10 ∷ [] in
    let own : ns ≡ numbers_of (run_in ns) = again ns (omega (arith, as_many, three_at_least)) in
    let one : BeginsNumbers text ns (10 ∷ []) = record { whole = ap (λ (ms : List ℕ). flat_map number ms ++ 10 ∷ []) (sym own); below = below; ends = refl } in
    let other = run_there count run (run_line (run_in ns)) text short is (run_words (run_in ns)) in
    ap run_in (same_numbers ns (numbers_of run) text (10 ∷ []) (10 ∷ []) (omega (arith, as_many, short.as_many)) one other).0
