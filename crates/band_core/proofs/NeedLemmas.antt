-- The needs of a piece.
use Rattle.std.proofs.Common.{◌≡◌, ℕ, zero, suc, ◌+◌, ◌-◌, ◌*◌, ◌<◌, ◌≤◌, ◌==◌, Bool, true, false, ◌&&◌, ◌||◌, nat_le, nat_lt, if◌then◌else◌, refl, sym, arith, inl, inr, subst, eq-eqb, ne_eqb}
use Rattle.std.proofs.lemmas.Bool.{and_parts, and_from, eqb-true, leb-true, le-leb, ltb-true, cases_eq, false≢true, or_cases, or_left, or_right, lt-ltb}
use Rattle.page_model.specs.declared.bands.Bands.{Bands}
use Rattle.lists.specs.Words.{count_below}
use Rattle.page_model.specs.Bands.{AreBands, pieces_of, piece_of, phase_of, band_of}
use Rattle.band_core.specs.Needs.{halo_bands, near_bands, phase_needs, is_need}
use Rattle.band_core.specs.Listing.{needs_of_phase, need_of_phase, need_total, need_number, lowest_band, highest_band}
use Rattle.band_core.proofs.CountLemmas.{count-all, count-at}
use Rattle.page_model.proofs.BandLemmas.{earlier_phase, phase_of_piece, band_of_piece, piece-is, band-less, phase-less}

-- the needs of a piece are of earlier phases
pub earlier : (bands : Bands) (p b q a : ℕ) → phase_needs bands p b q a ≡ true → q < p
earlier bands zero b q a t = absurd (false≢true t)
earlier bands (suc zero) b q a t = let e = eqb-true q 0 (and_parts (q == 0) (a == b || a == b + 1) t).0 in omega (arith, e)
earlier bands (suc (suc zero)) b q a t = let e = eqb-true q 1 (and_parts (q == 1) (near_bands bands a b) t).0 in omega (arith, e)
earlier bands (suc (suc (suc p))) b q a t = elim (or_cases (q == 0) (q == 2) (and_parts (q == 0 || q == 2) (a == b) t).0) [
  | inl e ↦ (let k = eqb-true q 0 e in omega (arith, k))
  | inr e ↦ (let k = eqb-true q 2 e in omega (arith, k))
]

pub need_less : (bands : Bands) (i n : ℕ) → AreBands bands → is_need bands i n ≡ true → n < i
unfolding is_need
need_less bands i n is t = earlier_phase bands i n is (earlier bands _ _ _ _ t)

pub at_place : (bands : Bands) (p b q a n : ℕ) → a < bands.count → n ≡ q * bands.count + a → phase_needs bands p b q a ≡ true → phase_needs bands p b (phase_of bands n) (band_of bands n) ≡ true
at_place bands p b q a n l e t = subst (λ (m : ℕ). phase_needs bands p b (phase_of bands m) (band_of bands m) ≡ true) (sym e)
    (subst (λ (r : ℕ). phase_needs bands p b r (band_of bands (q * bands.count + a)) ≡ true) (sym (phase_of_piece bands q a l))
    (subst (λ (r : ℕ). phase_needs bands p b q r ≡ true) (sym (band_of_piece bands q a l)) t))

below_two : (c : Bool) (b count k : ℕ) → nat_lt (b + 1) count ≡ c → b < count → k < (if c then 2 else 1) → (b + k < count) × (k < 2)
below_two true b count k is l m = let t = ltb-true (b + 1) count is in (omega (arith, t, m), omega (arith, m))
below_two false b count k is l m = (omega (arith, l, m), omega (arith, m))

this_or_next : (b k : ℕ) → k < 2 → ((b + k) == b || (b + k) == b + 1) ≡ true
this_or_next b k l = elim (cases_eq k 0) [
  | inl e ↦ or_left _ _ (eq-eqb (b + k) b (omega (arith, e)))
  | inr ne ↦ or_right _ _ (eq-eqb (b + k) (b + 1) (omega (arith, ne, l)))
]

near_is : (bands : Bands) (a b : ℕ) → a ≤ b + halo_bands bands → b ≤ a + halo_bands bands → near_bands bands a b ≡ true
near_is bands a b up down = and_from (nat_le a (b + halo_bands bands)) (nat_le b (a + halo_bands bands)) (le-leb _ _ up) (le-leb _ _ down)

listed : (bands : Bands) (p b k : ℕ) → p < 4 → b < bands.count → k < needs_of_phase bands p b → phase_needs bands p b (phase_of bands (need_of_phase bands p b k)) (band_of bands (need_of_phase bands p b k)) ≡ true
listed bands p b k few l m = elim (cases_eq p 0) [
  | inl e ↦ (let none : k < 0 = rw e at m in absurd (omega arith))
  | inr n0 ↦ elim (cases_eq p 1) [
    | inl e ↦ rw e (let two = below_two (nat_lt (b + 1) bands.count) b bands.count k refl l (rw e at m) in at_place bands 1 b 0 (b + k) (b + k) two.0 (omega arith) (this_or_next b k two.1))
    | inr n1 ↦ elim (cases_eq p 2) [
      | inl e ↦ rw e (let few' : k < highest_band bands b + 1 - lowest_band bands b = rw e at m in
          at_place bands 2 b 1 (lowest_band bands b + k) (bands.count + lowest_band bands b + k) (omega (arith, few', l)) (omega arith) (near_is bands (lowest_band bands b + k) b (omega (arith, few')) (omega (arith, few'))))
      | inr n2 ↦ (let three : p ≡ 3 = omega (arith, few, n0, n1, n2) in rw three (elim (cases_eq k 0) [
        | inl e ↦ rw e (at_place bands 3 b 0 b b l (omega arith) (eq-eqb b b refl))
        | inr ne ↦ rw (ne_eqb k 0 ne) (at_place bands 3 b 2 b (2 * bands.count + b) l refl (and_from _ _ refl (eq-eqb b b refl)))
      ]))
    ]
  ]
]

pub listed_is_need : (bands : Bands) (i k : ℕ) → AreBands bands → i < pieces_of bands → k < need_total bands i → is_need bands i (need_number bands i k) ≡ true
unfolding is_need need_total need_number
listed_is_need bands i k is l m = listed bands (phase_of bands i) (band_of bands i) k (phase-less bands i l) (band-less bands i is) m

abbrev Listed : Bands → ℕ → ℕ → ℕ → Type 0
Listed bands p b n = (k : ℕ) × (k < needs_of_phase bands p b) × (need_of_phase bands p b k ≡ n)

two_if : (b count : ℕ) → b + 1 < count → 1 < (if nat_lt (b + 1) count then 2 else 1)
two_if b count l = rw (lt-ltb (b + 1) count l) (omega arith)

some_if : (c : Bool) → 0 < (if c then 2 else 1)
some_if true = omega arith
some_if false = omega arith

need_listed : (bands : Bands) (p b q a : ℕ) → p < 4 → a < bands.count → phase_needs bands p b q a ≡ true → Listed bands p b (q * bands.count + a)
need_listed bands p b q a few l t = elim (cases_eq p 0) [
  | inl e ↦ (let none : false ≡ true = rw e at t in absurd (false≢true none))
  | inr n0 ↦ elim (cases_eq p 1) [
    | inl e ↦ rw e (let t' : ((q == 0) && (a == b || a == b + 1)) ≡ true = rw e at t in let two = and_parts (q == 0) (a == b || a == b + 1) t' in let zero_q = eqb-true q 0 two.0 in elim (or_cases (a == b) (a == b + 1) two.1) [
      | inl here ↦ (let s = eqb-true a b here in rw (zero_q, s) (0, some_if (nat_lt (b + 1) bands.count), omega arith))
      | inr next ↦ (let s = eqb-true a (b + 1) next in rw (zero_q, s) (1, two_if b bands.count (omega (arith, s, l)), omega arith))
    ])
    | inr n1 ↦ elim (cases_eq p 2) [
      | inl e ↦ rw e (let t' : ((q == 1) && near_bands bands a b) ≡ true = rw e at t in let two = and_parts (q == 1) (near_bands bands a b) t' in let one_q = eqb-true q 1 two.0 in
          let near = and_parts (nat_le a (b + halo_bands bands)) (nat_le b (a + halo_bands bands)) two.1 in let up = leb-true _ _ near.0 in let down = leb-true _ _ near.1 in
          rw one_q (a - lowest_band bands b, omega (arith, up, down, l), omega (arith, up, down)))
      | inr n2 ↦ (let three : p ≡ 3 = omega (arith, few, n0, n1, n2) in rw three (let t' : ((q == 0 || q == 2) && (a == b)) ≡ true = rw three at t in let two = and_parts (q == 0 || q == 2) (a == b) t' in let s = eqb-true a b two.1 in elim (or_cases (q == 0) (q == 2) two.0) [
        | inl z ↦ (let e = eqb-true q 0 z in rw (e, s) (0, omega arith, omega arith))
        | inr z ↦ (let e = eqb-true q 2 z in rw (e, s) (1, omega arith, refl))
      ]))
    ]
  ]
]

pub need_is_listed : (bands : Bands) (i n : ℕ) → AreBands bands → i < pieces_of bands → is_need bands i n ≡ true → (k : ℕ) × (k < need_total bands i) × (need_number bands i k ≡ n)
unfolding is_need need_total need_number
need_is_listed bands i n is l t = subst (λ (m : ℕ). Listed bands (phase_of bands i) (band_of bands i) m) (piece-is bands n) (need_listed bands (phase_of bands i) (band_of bands i) (phase_of bands n) (band_of bands n) (phase-less bands i l) (band-less bands n is) t)

pub number_less : (bands : Bands) (i k : ℕ) → AreBands bands → i < pieces_of bands → k < need_total bands i → need_of_phase bands (phase_of bands i) (band_of bands i) k < i
unfolding need_number
number_less bands i k is l m = need_less bands i (need_number bands i k) is (listed_is_need bands i k is l m)

-- a need is of an earlier phase
pub need_earlier : (bands : Bands) (i n : ℕ) → is_need bands i n ≡ true → phase_of bands n < phase_of bands i
unfolding is_need
need_earlier bands i n t = earlier bands (phase_of bands i) (band_of bands i) (phase_of bands n) (band_of bands n) t

-- a piece of that phase and band is a need where the phases say so
pub need_from : (bands : Bands) (i q a : ℕ) → a < bands.count → phase_needs bands (phase_of bands i) (band_of bands i) q a ≡ true → is_need bands i (piece_of bands q a) ≡ true
unfolding is_need
need_from bands i q a l t = at_place bands (phase_of bands i) (band_of bands i) q a (piece_of bands q a) l refl t

-- the listed needs ascend
listed_ascends : (bands : Bands) (p b k : ℕ) → p < 4 → 1 ≤ bands.count → k + 1 < needs_of_phase bands p b → need_of_phase bands p b k < need_of_phase bands p b (k + 1)
listed_ascends bands p b k few some l = elim (cases_eq p 0) [
  | inl e ↦ (let none : k + 1 < 0 = rw e at l in absurd (omega (arith, none)))
  | inr n0 ↦ elim (cases_eq p 1) [
    | inl e ↦ rw e (omega arith)
    | inr n1 ↦ elim (cases_eq p 2) [
      | inl e ↦ rw e (omega arith)
      | inr n2 ↦ (let three : p ≡ 3 = omega (arith, few, n0, n1, n2) in let two : k + 1 < 2 = rw three at l in let first : k ≡ 0 = omega (arith, two) in rw (three, first) (omega (arith, some)))
    ]
  ]
]

pub number_ascends : (bands : Bands) (i k : ℕ) → AreBands bands → i < pieces_of bands → k + 1 < need_total bands i → need_number bands i k < need_number bands i (k + 1)
unfolding need_total need_number
number_ascends bands i k is l m = listed_ascends bands (phase_of bands i) (band_of bands i) k (phase-less bands i l) is.some_bands m

module _ (bands : Bands) (i : ℕ) (is : AreBands bands) (l : i < pieces_of bands) where
  -- so many needs there are
  pub needs-counted : count_below (is_need bands i) (pieces_of bands) ≡ need_total bands i
  needs-counted = count-all (is_need bands i) (need_number bands i) (need_total bands i) (λ k m. number_ascends bands i k is l m) (λ k m. listed_is_need bands i k is l m) (λ n t. need_is_listed bands i n is l t) (pieces_of bands)
      (λ k m. let t = need_less bands i (need_number bands i k) is (listed_is_need bands i k is l m) in omega (arith, t, l))

  -- and so many stand before the k-th
  pub needs-before : (k : ℕ) → k < need_total bands i → count_below (is_need bands i) (need_number bands i k) ≡ k
  needs-before k m = count-at (is_need bands i) (need_number bands i) (need_total bands i) (λ k m. number_ascends bands i k is l m) (λ k m. listed_is_need bands i k is l m) (λ n t. need_is_listed bands i n is l t) k m
