-- Crossings counted by the samples left of them: one more crossing, one more for each sample
-- left of it.
use Rattle.std.proofs.Common.{◌≡◌, ◌∙◌, ap, sym, refl, ℕ, zero, suc, ◌+◌, ◌-◌, ◌<◌, ◌≤◌, ◌⊎◌, inl, inr, List, [], ◌∷◌, length, drop, get_or, set, pos, arith, eq-eqb, Fits, w32, if◌then◌else◌, true, false, add-one}
use Rattle.std.specs.Prelude.{Bool, not, sum, nat_lt, nat_eq, ℤ, ◌+ℤ◌, ◌-ℤ◌}
use Rattle.std.specs.Ordering.{int_eq}
use Rattle.std.proofs.lemmas.Int.{ints}
use Rattle.std.proofs.lemmas.List.{drop-set-lt}
use Rattle.std.proofs.lemmas.List.Sums.{sum_by-cons}
use Rattle.std.proofs.Math.Seq.{drop-cons}
use Rattle.std.proofs.lemmas.Bool.Decides.{nat_tests}

sum-cons : (x : ℕ) (xs : List ℕ) → sum (x ∷ xs) ≡ x + sum xs
sum-cons x xs = sum_by-cons (λ n. n) x xs

more-first : (x s : ℕ) → (x + 1) + s ≡ (x + s) + 1
more-first x s = omega arith

more-later : (x s t : ℕ) → s ≡ t + 1 → x + s ≡ (x + t) + 1
more-later x s t e = omega (arith, e)

sum-more : (xs : List ℕ) (i : ℕ) → i < length xs → sum (set xs i (get_or xs i 0 + 1)) ≡ sum xs + 1
sum-more [] i l = absurd (omega (arith, l))
sum-more (x ∷ xs) zero l = rw (sum-cons (x + 1) xs, sum-cons x xs) (more-first x (sum xs))
sum-more (x ∷ xs) (suc i) l = rw (sum-cons x (set xs i (get_or xs i 0 + 1)), sum-cons x xs) (more-later x (sum (set xs i (get_or xs i 0 + 1))) (sum xs) (sum-more xs i (omega (arith, l))))

drop-more : (xs : List ℕ) (k i : ℕ) → k ≤ i → i < length xs → sum (drop k (set xs i (get_or xs i 0 + 1))) ≡ sum (drop k xs) + 1
drop-more [] k i h l = absurd (omega (arith, l))
drop-more (x ∷ xs) zero i h l = sum-more (x ∷ xs) i l
drop-more (x ∷ xs) (suc k) zero h l = absurd (omega (arith, h))
drop-more (x ∷ xs) (suc k) (suc i) h l = drop-more xs k i (omega (arith, h)) (omega (arith, l))

tells : (x n : ℕ) → (nat_lt x n ≡ true) × (x + 1 ≤ n) ⊎ (nat_lt x n ≡ false) × (n < x + 1)
tells x n = grind (arith, nat_tests)

-- one crossing more counts for the samples on its left
pub past-more : (xs : List ℕ) (n x : ℕ) → n < length xs → sum (drop (x + 1) (set xs n (get_or xs n 0 + 1))) ≡ sum (drop (x + 1) xs) + (if nat_lt x n then 1 else 0)
past-more xs n x l = elim (tells x n) [
  | inl h ↦ rw (h.0) (drop-more xs (x + 1) n h.1 l)
  | inr h ↦ rw (h.0, drop-set-lt (x + 1) xs n (get_or xs n 0 + 1) h.1) (sym (none-more (sum (drop (x + 1) xs))))
]
  where
    none-more : (s : ℕ) → s + 0 ≡ s
    none-more s = omega arith

-- the sum from place k on
pub sum-drop-step : (xs : List ℕ) (k : ℕ) → k < length xs → sum (drop k xs) ≡ get_or xs k 0 + sum (drop (k + 1) xs)
sum-drop-step xs k l = ap (λ (ys : List ℕ). sum ys) (drop-cons xs k 0 l) ∙ sum-cons (get_or xs k 0) (drop (suc k) xs) ∙ rw add-one refl

le-skip : (x s t : ℕ) → s ≤ t → s ≤ x + t
le-skip x s t h = omega (arith, h)

le-self : (s : ℕ) → s ≤ s
le-self s = omega arith

pub sum-drop-le : (xs : List ℕ) (k : ℕ) → sum (drop k xs) ≤ sum xs
sum-drop-le [] zero = le-self 0
sum-drop-le [] (suc k) = le-self 0
sum-drop-le (x ∷ xs) zero = le-self (sum (x ∷ xs))
sum-drop-le (x ∷ xs) (suc k) = rw (sum-cons x xs) (le-skip x (sum (drop k xs)) (sum xs) (sum-drop-le xs k))

pub past-none : (xs : List ℕ) (k : ℕ) → sum xs ≡ 0 → sum (drop k xs) ≡ 0
past-none xs k e = omega (arith, e, sum-drop-le xs k)

pub left-none : (xs ys : List ℕ) (k : ℕ) → sum xs ≡ 0 → sum ys ≡ 0 → pos (sum (drop k xs)) -ℤ pos (sum (drop k ys)) ≡ pos 0
left-none xs ys k e f = rw (past-none xs k e, past-none ys k f) refl

-- two counts cancel out where they are equal
pub cancels : (u d : ℕ) → int_eq (pos u -ℤ pos d) (pos 0) ≡ nat_eq u d
cancels u d = grind (arith, ints, nat_tests)

pub up-noted : (p' p d k : ℕ) (t : ℤ) → p' ≡ p + k → t ≡ pos k → pos p' -ℤ pos d ≡ (pos p -ℤ pos d) +ℤ t
up-noted p' p d k t e f = omega (arith, ints, e, f)

pub down-noted : (p d' d k : ℕ) (t : ℤ) → d' ≡ d + k → t ≡ pos 0 -ℤ pos k → pos p -ℤ pos d' ≡ (pos p -ℤ pos d) +ℤ t
down-noted p d' d k t e f = omega (arith, ints, e, f)

pub none-noted : (s t : ℤ) → t ≡ pos 0 → s ≡ s +ℤ t
none-noted s t e = omega (arith, ints, e)

split : (a b : ℕ) → (a < b) ⊎ (b ≤ a)
split zero zero = inr (omega arith)
split zero (suc b) = inl (omega arith)
split (suc a) zero = inr (omega arith)
split (suc a) (suc b) = elim (split a b) [ inl l ↦ inl (omega (arith, l)) | inr h ↦ inr (omega (arith, h)) ]

-- the count of what lies past the sample before
pub past-step : (xs : List ℕ) (x u : ℕ) → 0 < x → x < length xs → u ≡ sum (drop (x + 1) xs) → u + get_or xs x 0 ≡ sum (drop (x - 1 + 1) xs)
past-step xs x u h l e = let back : x - 1 + 1 ≡ x = omega (arith, h) in rw (back, sum-drop-step xs x l, e) (swapped (sum (drop (x + 1) xs)) (get_or xs x 0))
  where
    swapped : (a b : ℕ) → a + b ≡ b + a
    swapped a b = omega arith

-- a sum that goes on fits
pub past-fits : (xs : List ℕ) (x u : ℕ) → x < length xs → u ≡ sum (drop (x + 1) xs) → sum xs ≤ 4096 → Fits w32 (u + get_or xs x 0)
past-fits xs x u l e h = omega (arith, sum-drop-step xs x l, sum-drop-le xs x, e, h)

abbrev pub Spanned : List ℕ → List ℕ → List ℕ → List ℕ → ℕ → ℕ → Type 0
Spanned ups downs old out z k = get_or out k 0 ≡ (if int_eq (pos (sum (drop (k + 1) ups)) -ℤ pos (sum (drop (k + 1) downs))) (pos 0) then get_or old k 0 else z)

differ : (u d : ℕ) → (u ≡ d → ⊥) → nat_eq u d ≡ false
differ u d n = grind (arith, nat_tests)

-- places that hold 0 add nothing
pub sum-zeros : (xs : List ℕ) (n a : ℕ) → a + n ≤ length xs → ((k : ℕ) → a ≤ k → k < a + n → get_or xs k 0 ≡ 0) → sum (drop a xs) ≡ sum (drop (a + n) xs)
sum-zeros xs zero a l z = ap (λ (k : ℕ). sum (drop k xs)) (omega arith)
sum-zeros xs (suc n) a l z = sum-drop-step xs a (omega (arith, l)) ∙ ap (λ (m : ℕ). m + sum (drop (a + 1) xs)) (z a (omega arith) (omega arith)) ∙ none-first (sum (drop (a + 1) xs)) ∙ sum-zeros xs n (a + 1) (omega (arith, l)) (λ k h m. z k (omega (arith, h)) (omega (arith, m))) ∙ ap (λ (k : ℕ). sum (drop k xs)) (omega arith)
  where
    none-first : (s : ℕ) → 0 + s ≡ s
    none-first s = omega arith

-- the count of what lies past each sample of a run with no crossing after its first place
pub past-run : (xs : List ℕ) (from k x u : ℕ) → from ≤ k → k < x → x < length xs → ((j : ℕ) → from < j → j < x → get_or xs j 0 ≡ 0) → u ≡ sum (drop (x + 1) xs) → u + get_or xs x 0 ≡ sum (drop (k + 1) xs)
past-run xs from k x u h m l z e = past-step xs x u (omega (arith, m)) l e ∙ ap (λ (j : ℕ). sum (drop j xs)) (omega (arith, m)) ∙ sym (sum-zeros xs (x - (k + 1)) (k + 1) (omega (arith, m, l)) (λ j g p. z j (omega (arith, g, h)) (omega (arith, p, m))))

-- the zone is written from one sample on and before another
pub run-written : (ups downs old out new : List ℕ) (from x z u d : ℕ) → ((k : ℕ) → from ≤ k → k < x → u ≡ sum (drop (k + 1) ups)) → ((k : ℕ) → from ≤ k → k < x → d ≡ sum (drop (k + 1) downs)) → (u ≡ d → ⊥) → ((k : ℕ) → from ≤ k → k < x → get_or new k 0 ≡ z) → ((k : ℕ) → x ≤ k → get_or new k 0 ≡ get_or out k 0) → ((k : ℕ) → x ≤ k → k < length old → Spanned ups downs old out z k) → (k : ℕ) → from ≤ k → k < length old → Spanned ups downs old new z k
run-written ups downs old out new from x z u d e f n here after done k h m = elim (split k x) [
  | inl l ↦ here k h l ∙ rw (← e k h l, ← f k h l, cancels u d, differ u d n) refl
  | inr g ↦ after k g ∙ done k g m
]

-- or these samples keep what they had
pub run-kept : (ups downs old out : List ℕ) (from x z u d : ℕ) → ((k : ℕ) → from ≤ k → k < x → u ≡ sum (drop (k + 1) ups)) → ((k : ℕ) → from ≤ k → k < x → d ≡ sum (drop (k + 1) downs)) → u ≡ d → ((k : ℕ) → k < x → get_or out k 0 ≡ get_or old k 0) → ((k : ℕ) → x ≤ k → k < length old → Spanned ups downs old out z k) → (k : ℕ) → from ≤ k → k < length old → Spanned ups downs old out z k
run-kept ups downs old out from x z u d e f n kept done k h m = elim (split k x) [
  | inl l ↦ kept k l ∙ rw (← e k h l, ← f k h l, cancels u d, eq-eqb u d n) refl
  | inr g ↦ done k g m
]

pub chosen : (b : Bool) (old z : ℕ) → (if b then old else z) ≡ (if not b then z else old)
chosen true old z = refl
chosen false old z = refl
