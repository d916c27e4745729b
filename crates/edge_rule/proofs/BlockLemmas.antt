-- A list of answers that is written block by block.
use Rattle.std.proofs.Common.{◌≡◌, ℕ, ◌+◌, ◌-◌, ◌<◌, ◌≤◌, ◌++◌, Bool, false, ◌||◌, ap, arith, inl, inr, ◌∙◌, List, length, nat_le, slice_index, slice_index_or, take, drop}
use Rattle.std.proofs.lemmas.Bool.{cases_lt}
use Rattle.std.proofs.lemmas.List.{get_or-append_right, get_or-drop, get_or-take, get_or_append_left, length-take-le}
use borrow.Rule.Slice.PartMut.{post_of, put_mid}

-- what a part of a list reads
part_at : {X : Type 0} (xs : List X) (a k i : ℕ) (d : X) → i < k → slice_index_or (take k (drop a xs)) i d ≡ slice_index_or xs (a + i) d
part_at xs a k i d l = get_or-take k (drop a xs) i d l ∙ get_or-drop a xs i d

-- a written part, what lies before it, and what lies after it
below : (xs ys : List Bool) (a k j : ℕ) → a ≤ length xs → j < a → slice_index_or (put_mid a k xs ys) j false ≡ slice_index_or xs j false
below xs ys a k j le l =
    get_or_append_left (take a xs) (ys ++ post_of a k xs) false j (omega (arith, length-take-le a xs le, l))
    ∙ get_or-take a xs j false l

inside : (xs ys : List Bool) (a k j : ℕ) → a ≤ length xs → a ≤ j → j < a + length ys → slice_index_or (put_mid a k xs ys) j false ≡ slice_index_or ys (j - a) false
inside xs ys a k j le low high =
    get_or-append_right (take a xs) (ys ++ post_of a k xs) a j false (length-take-le a xs le) low
    ∙ get_or_append_left ys (post_of a k xs) false (j - a) (omega (arith, low, high))

pub after : (xs ys : List Bool) (a k j : ℕ) → a ≤ length xs → length ys ≡ k → a + k ≤ j → slice_index_or (put_mid a k xs ys) j false ≡ slice_index_or xs j false
after xs ys a k j le long low =
    let back : a + (k + (j - a - k)) ≡ j = omega (arith, low) in
    get_or-append_right (take a xs) (ys ++ post_of a k xs) a j false (length-take-le a xs le) (omega (arith, low))
    ∙ get_or-append_right ys (post_of a k xs) k (j - a) false long (omega (arith, low))
    ∙ get_or-drop k (drop a xs) (j - a - k) false
    ∙ get_or-drop a xs (k + (j - a - k)) false
    ∙ ap (λ (n : ℕ). slice_index_or xs n false) back

-- answers that are noted below a, once those of the next block are
block_noted : (f : ℕ → Bool) (first now part : List Bool) (a e : ℕ) → a ≤ e → e ≤ length now → length part ≡ e - a → ((j : ℕ) → j < a → slice_index_or now j false ≡ (slice_index_or first j false || f j)) → ((j : ℕ) → a ≤ j → j < length now → slice_index_or now j false ≡ slice_index_or first j false) → ((i : ℕ) → i < e - a → slice_index_or part i false ≡ (slice_index_or now (a + i) false || f (a + i))) → (j : ℕ) → j < e → slice_index_or (put_mid a (e - a) now part) j false ≡ (slice_index_or first j false || f j)
block_noted f first now part a e le in_list long done rest new j l = elim (cases_lt j a) [
  | inl low ↦ below now part a (e - a) j (omega (arith, le, in_list)) low ∙ done j low
  | inr high ↦ (
      let back : a + (j - a) ≡ j = omega (arith, high) in
      inside now part a (e - a) j (omega (arith, le, in_list)) high (omega (arith, long, le, l))
      ∙ new (j - a) (omega (arith, high, l))
      ∙ ap (λ (n : ℕ). slice_index_or now n false || f n) back
      ∙ ap (λ (b : Bool). b || f j) (rest j high (omega (arith, l, in_list))))
]

-- the same of the falls between two rows of tints, of which the block's parts are looked at
pub falls_noted : (step : ℕ) (from to : List ℕ) (first now part : List Bool) (a e : ℕ) → a ≤ e → e ≤ length now → length part ≡ e - a → ((j : ℕ) → j < a → slice_index_or now j false ≡ (slice_index_or first j false || nat_le step (slice_index from j - slice_index to j))) → ((j : ℕ) → a ≤ j → j < length now → slice_index_or now j false ≡ slice_index_or first j false) → ((i : ℕ) → i < e - a → slice_index_or part i false ≡ (slice_index_or (take (e - a) (drop a now)) i false || nat_le step (slice_index (take (e - a) (drop a from)) i - slice_index (take (e - a) (drop a to)) i))) → (j : ℕ) → j < e → slice_index_or (put_mid a (e - a) now part) j false ≡ (slice_index_or first j false || nat_le step (slice_index from j - slice_index to j))
falls_noted step from to first now part a e le in_list long done rest new =
    block_noted (λ (j : ℕ). nat_le step (slice_index from j - slice_index to j)) first now part a e le in_list long done rest (λ i l.
    new i l
    ∙ ap (λ (b : Bool). b || nat_le step (slice_index (take (e - a) (drop a from)) i - slice_index (take (e - a) (drop a to)) i)) (part_at now a (e - a) i false l)
    ∙ ap (λ (n : ℕ). slice_index_or now (a + i) false || nat_le step (n - slice_index (take (e - a) (drop a to)) i)) (part_at from a (e - a) i 0 l)
    ∙ ap (λ (n : ℕ). slice_index_or now (a + i) false || nat_le step (slice_index from (a + i) - n)) (part_at to a (e - a) i 0 l))
