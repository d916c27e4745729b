-- The numbers of a header, and where they end.
use Rattle.std.proofs.Common.{◌≡◌, ◌⊎◌, ℕ, zero, suc, ◌<◌, ◌≤◌, ◌*◌, min, true, false, cond, ltb, leb, ◌&&◌, List, [], ◌∷◌, ◌++◌, length, Some, None, refl, sym, ap, ◌∙◌, subst, inl, inr, arith}
use Rattle.std.proofs.lemmas.Bool.Decides.{nat_tests}
use Rattle.std.proofs.lemmas.List.{same_from_push}
use Rattle.lists.proofs.FirstSome.{some_is_none}
use Rattle.pgm_plates.specs.declared.bounds.Bounds.{Bounds}
use Rattle.pgm_plates.specs.declared.bounds.Bounds.TheVariants.{Page, Sheet}
use Rattle.pgm_plates.specs.declared.header_state.HeaderState.TheVariants.{Start, Digits}
use Rattle.pgm_plates.specs.declared.header.Sides.{Sides}
use Rattle.pgm_plates.specs.declared.header.Sides.TheVariants.{Neither, Width, Both}
use Rattle.pgm_plates.specs.declared.plate.PlateFault.{PlateFault}
use Rattle.pgm_plates.specs.declared.plate.PlateFault.TheVariants.{BadMagic, BadHeader, SideRange, TooManySamples, MaxvalRange, SampleAboveMaxval, Truncated, TrailingBytes}
use Rattle.pgm_plates.specs.Header.{is_digit}
use Rattle.pgm_plates.specs.Limits.{samples_within, side_within}
use Rattle.pgm_plates.specs.Plates.{IsSideWithin}
use Rattle.pgm_plates.specs.Faults.{EndsNumber, NumberFault}
use Rattle.pgm_plates.specs.Runs.{run}
use Rattle.pgm_plates.specs.Scanning.{past, side_test, number_fault, sides_then, InRange}
use Rattle.pgm_plates.proofs.HeaderSound.{chosen}
use Rattle.pgm_plates.proofs.HeaderRun.{reached, numbers_run}

-- Before the byte that ends a number, a run is after its digits.
pub ends_run : (bytes : List ℕ) (b at n : ℕ) (earlier : List ℕ) → EndsNumber (bytes ++ b ∷ []) at n earlier → length earlier ≤ 2 → (run Start [] bytes ≡ Some (reached Digits (n ∷ earlier))) × (is_digit b ≡ false)
ends_run bytes b at n earlier ends few =
    let both = same_from_push bytes (ends.prefix ++ ends.gap ++ ends.digits) b ends.next ends.whole in
    let other : is_digit b ≡ false = ap is_digit both.1 ∙ ends.ended in
    (numbers_run (n ∷ earlier) bytes (omega arith) (ends.prefix, ends.gap, ends.digits, ends.numbers, ends.is_gap, ends.is_number, both.0), other)

-- what a number's fault is about
pub record Ends (bytes : List ℕ) : Type 0 where
  pub at : ℕ
  pub number : ℕ
  pub earlier : List ℕ
  pub ends : EndsNumber bytes at number earlier
  pub few : length earlier ≤ 2

some_fault : (f g : PlateFault) → Some f ≡ Some g → f ≡ g
some_fault f g e = cc

none_some : (g : PlateFault) → None ≡ Some g → ⊥
none_some g e = cc

out_of_range : (n : ℕ) → (ltb 0 (min n 1000000) && leb (min n 1000000) 65535) ≡ false → (n ≡ 0) ⊎ (65535 < n)
out_of_range zero isnt = inl refl
out_of_range (suc n) isnt = inr (let big : 65535 < min (suc n) 1000000 = grind (arith, nat_tests) in omega arith)

-- A side in range is far below the number that is held in place of what is out of range.
pub small_side : (bounds : Bounds) → side_within bounds ≤ 262144
small_side Page = omega arith
small_side Sheet = omega arith

module _ (bounds : Bounds) where
  unfoldable pub fault_ends : (bytes : List ℕ) (fault : PlateFault) → NumberFault bounds bytes fault → Ends bytes
  fault_ends bytes (SideRange at) h = record { at = at; number = h.0; earlier = h.1; ends = h.2; few = omega (arith, h.3) }
  fault_ends bytes (TooManySamples at) h = record { at = at; number = h.1; earlier = h.0 ∷ []; ends = h.2; few = omega arith }
  fault_ends bytes (MaxvalRange at) h = record { at = at; number = h.2; earlier = h.1 ∷ h.0 ∷ []; ends = h.3; few = omega arith }
  fault_ends bytes (BadMagic at) h = absurd h
  fault_ends bytes (BadHeader at) h = absurd h
  fault_ends bytes (SampleAboveMaxval at) h = absurd h
  fault_ends bytes (Truncated at) h = absurd h
  fault_ends bytes (TrailingBytes at) h = absurd h

  side_is : (n : ℕ) → side_test bounds n ≡ true → IsSideWithin bounds n
  side_is n h = grind (arith, nat_tests)

  side_isnt : (n : ℕ) → side_test bounds n ≡ false → IsSideWithin bounds n → ⊥
  side_isnt n h is = grind (arith, nat_tests, is.0, is.1)

  -- a number in range is the one that was kept
  pub kept_number : (sides : Sides) (n first : ℕ) → number_fault bounds sides (min n 1000000) first ≡ None → min n 1000000 ≡ n
  kept_number Neither n first none =
      elim (chosen (side_test bounds (min n 1000000)) None (Some (SideRange first)) None none) [
        | inl h ↦ let is = side_is (min n 1000000) h.0 in omega (arith, is.1, small_side bounds)
        | inr h ↦ absurd (some_is_none (SideRange first) h.1)
      ]
  kept_number (Width w) n first none =
      elim (chosen (side_test bounds (min n 1000000)) (cond (leb (w * min n 1000000) (samples_within bounds)) None (Some (TooManySamples first))) (Some (SideRange first)) None none) [
        | inl h ↦ let is = side_is (min n 1000000) h.0 in omega (arith, is.1, small_side bounds)
        | inr h ↦ absurd (some_is_none (SideRange first) h.1)
      ]
  kept_number (Both w g) n first none = grind (arith, nat_tests)

  -- what an accepted number makes of the sides
  pub accepted : (sides : Sides) (n first : ℕ) → number_fault bounds sides n first ≡ None → InRange bounds sides → InRange bounds (sides_then sides n)
  accepted Neither n first none range =
      elim (chosen (side_test bounds n) None (Some (SideRange first)) None none) [
        | inl h ↦ side_is n h.0
        | inr h ↦ absurd (some_is_none (SideRange first) h.1)
      ]
  accepted (Width w) n first none range =
      elim (chosen (side_test bounds n) (cond (leb (w * n) (samples_within bounds)) None (Some (TooManySamples first))) (Some (SideRange first)) None none) [
        | inl h ↦ elim (chosen (leb (w * n) (samples_within bounds)) None (Some (TooManySamples first)) None h.1) [
          | inl k ↦ (range, side_is n h.0, grind (arith, nat_tests, k.0))
          | inr k ↦ absurd (some_is_none (TooManySamples first) k.1)
        ]
        | inr h ↦ absurd (some_is_none (SideRange first) h.1)
      ]
  accepted (Both w h) n first none range = range

  pub accepted_maxval : (w h n first : ℕ) → number_fault bounds (Both w h) n first ≡ None → (0 < n) × (n ≤ 65535)
  accepted_maxval w h n first none = (grind (arith, nat_tests), grind (arith, nat_tests))

  side_case : (sides : Sides) (n first : ℕ) → number_fault bounds sides n first ≡ None → InRange bounds sides → (m : ℕ) (earlier : List ℕ) → m ≡ n → earlier ≡ past sides → length earlier < 2 → (IsSideWithin bounds m → ⊥) → ⊥
  side_case Neither n first none range m earlier is same few isnt = isnt (subst (IsSideWithin bounds) (sym is) (accepted Neither n first none range))
  side_case (Width w) n first none range m earlier is same few isnt = isnt (subst (IsSideWithin bounds) (sym is) ((accepted (Width w) n first none range).1))
  side_case (Both w h) n first none range m earlier is same few isnt = omega (arith, ap length same)

  product_case : (sides : Sides) (n first : ℕ) → number_fault bounds sides n first ≡ None → InRange bounds sides → (width m : ℕ) → m ≡ n → width ∷ [] ≡ past sides → samples_within bounds < width * m → ⊥
  product_case Neither n first none range width m is same big = omega (arith, ap length same)
  product_case (Width w) n first none range width m is same big =
      let fine = (accepted (Width w) n first none range).2 in
      let e : width ≡ w = cc in
      let p : width * m ≡ w * n = ap (λ (x : ℕ). x * m) e ∙ ap (λ (x : ℕ). w * x) is in
      omega arith
  product_case (Both w h) n first none range width m is same big = omega (arith, ap length same)

  maxval_case : (sides : Sides) (n first : ℕ) → number_fault bounds sides n first ≡ None → (width height m : ℕ) → m ≡ n → height ∷ width ∷ [] ≡ past sides → ((m ≡ 0) ⊎ (65535 < m)) → ⊥
  maxval_case Neither n first none width height m is same out = omega (arith, ap length same)
  maxval_case (Width w) n first none width height m is same out = omega (arith, ap length same)
  maxval_case (Both w h) n first none width height m is same out =
      let fine = accepted_maxval w h n first none in
      elim out [ inl none_at_all ↦ omega (arith, fine.0) | inr big ↦ omega (arith, fine.1) ]

  -- An accepted number has no fault.
  pub no_fault : (sides : Sides) (n first : ℕ) (bytes : List ℕ) → number_fault bounds sides n first ≡ None → InRange bounds sides → ((e : Ends bytes) → (e.number ≡ n) × (e.earlier ≡ past sides)) → (fault : PlateFault) → NumberFault bounds bytes fault → ⊥
  unfolding fault_ends
  no_fault sides n first bytes none range same (SideRange at) h =
      let is = same (fault_ends bytes (SideRange at) h) in
      side_case sides n first none range h.0 h.1 is.0 is.1 h.3 h.4
  no_fault sides n first bytes none range same (TooManySamples at) h =
      let is = same (fault_ends bytes (TooManySamples at) h) in
      product_case sides n first none range h.0 h.1 is.0 is.1 h.5
  no_fault sides n first bytes none range same (MaxvalRange at) h =
      let is = same (fault_ends bytes (MaxvalRange at) h) in
      maxval_case sides n first none h.0 h.1 h.2 is.0 is.1 h.4
  no_fault sides n first bytes none range same (BadMagic at) h = h
  no_fault sides n first bytes none range same (BadHeader at) h = h
  no_fault sides n first bytes none range same (SampleAboveMaxval at) h = h
  no_fault sides n first bytes none range same (Truncated at) h = h
  no_fault sides n first bytes none range same (TrailingBytes at) h = h

  -- a number out of range stays so when it is cut
  cut_side : (n : ℕ) → side_test bounds (min n 1000000) ≡ false → IsSideWithin bounds n → ⊥
  cut_side n isnt is = side_isnt (min n 1000000) isnt (subst (IsSideWithin bounds) (let e : n ≡ min n 1000000 = omega (arith, is.1, small_side bounds) in e) is)

  cut_kept : (n : ℕ) → side_test bounds (min n 1000000) ≡ true → min n 1000000 ≡ n
  cut_kept n does = let is = side_is (min n 1000000) does in omega (arith, is.1, small_side bounds)

  -- A number that isn't accepted has its fault.
  pub faulty : (sides : Sides) (n first : ℕ) (bytes : List ℕ) (fault : PlateFault) → number_fault bounds sides (min n 1000000) first ≡ Some fault → InRange bounds sides → EndsNumber bytes first n (past sides) → NumberFault bounds bytes fault
  faulty Neither n first bytes fault some range ends =
      elim (chosen (side_test bounds (min n 1000000)) None (Some (SideRange first)) (Some fault) some) [
        | inl h ↦ absurd (none_some fault h.1)
        | inr h ↦ subst (NumberFault bounds bytes) (some_fault (SideRange first) fault h.1) (n, [], ends, omega arith, cut_side n h.0)
      ]
  faulty (Width w) n first bytes fault some range ends =
      elim (chosen (side_test bounds (min n 1000000)) (cond (leb (w * min n 1000000) (samples_within bounds)) None (Some (TooManySamples first))) (Some (SideRange first)) (Some fault) some) [
        | inl h ↦ elim (chosen (leb (w * min n 1000000) (samples_within bounds)) None (Some (TooManySamples first)) (Some fault) h.1) [
          | inl k ↦ absurd (none_some fault k.1)
          | inr k ↦
              let kept : min n 1000000 ≡ n = cut_kept n h.0 in
              let big : samples_within bounds < w * min n 1000000 = grind (arith, nat_tests, k.0) in
              subst (NumberFault bounds bytes) (some_fault (TooManySamples first) fault k.1) (w, n, ends, range, subst (IsSideWithin bounds) kept (side_is (min n 1000000) h.0), subst (λ (x : ℕ). samples_within bounds < w * x) kept big)
        ]
        | inr h ↦ subst (NumberFault bounds bytes) (some_fault (SideRange first) fault h.1) (n, w ∷ [], ends, omega arith, cut_side n h.0)
      ]
  faulty (Both w h) n first bytes fault some range ends =
      elim (chosen (ltb 0 (min n 1000000) && leb (min n 1000000) 65535) None (Some (MaxvalRange first)) (Some fault) some) [
        | inl k ↦ absurd (none_some fault k.1)
        | inr k ↦ subst (NumberFault bounds bytes) (some_fault (MaxvalRange first) fault k.1) (w, h, n, ends, out_of_range n k.0)
      ]
