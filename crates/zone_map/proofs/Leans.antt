-- Orientation of a point and a segment: turned round it changes its sign.
use Rattle.std.proofs.Common.{◌⊎◌, inl, inr, ◌≡◌, ◌∙◌, ap, sym, refl, ℕ, zero, suc, ◌+◌, ◌-◌, ◌*◌, ◌/◌, ◌<◌, ◌≤◌, true, false, pos, arith}
use Rattle.std.specs.Prelude.{ℤ, ◌+ℤ◌, ◌-ℤ◌, ◌*ℤ◌, neg_ℤ, nat_abs, nat_lt, int_lt}
use Rattle.std.proofs.lemmas.Int.{ints}
use Rattle.std.proofs.lemmas.Bool.Decides.{nat_tests}
use Rattle.std.proofs.Math.Nat.{add-mul, mul_assoc, div-lt_iff_lt-mul}
use Rattle.std.proofs.Common.{w64}
use Rattle.zone_map.proofs.Widths.{way_is}
use mir.Val.{to_z, of_z}
use Rattle.page_model.specs.Zones.{Point, lean}
use Rattle.zone_map.proofs.Products.{sub-mul, mul-sub}

lean_terms : Point → Point → Point → ℤ
lean_terms a b p = (((b.px *ℤ p.py) -ℤ (b.px *ℤ a.py)) -ℤ ((a.px *ℤ p.py) -ℤ (a.px *ℤ a.py))) -ℤ (((p.px *ℤ b.py) -ℤ (p.px *ℤ a.py)) -ℤ ((a.px *ℤ b.py) -ℤ (a.px *ℤ a.py)))

lean-terms : (a b p : Point) → lean a b p ≡ lean_terms a b p
unfolding lean lean_terms
lean-terms a b p = rw (sub-mul b.px a.px (p.py -ℤ a.py), sub-mul p.px a.px (b.py -ℤ a.py), mul-sub b.px p.py a.py, mul-sub a.px p.py a.py, mul-sub p.px b.py a.py, mul-sub a.px b.py a.py) refl

opposite : (bp ba ap aa pb pa ab bb : ℤ) → ((bp -ℤ ba) -ℤ (ap -ℤ aa)) -ℤ ((pb -ℤ pa) -ℤ (ab -ℤ aa)) ≡ neg_ℤ (((ap -ℤ ab) -ℤ (bp -ℤ bb)) -ℤ ((pa -ℤ pb) -ℤ (ba -ℤ bb)))
opposite bp ba ap aa pb pa ab bb = omega (arith, ints)

turned-terms : (a b p : Point) → lean_terms a b p ≡ neg_ℤ (lean_terms b a p)
unfolding lean_terms
turned-terms a b p = opposite (b.px *ℤ p.py) (b.px *ℤ a.py) (a.px *ℤ p.py) (a.px *ℤ a.py) (p.px *ℤ b.py) (p.px *ℤ a.py) (a.px *ℤ b.py) (b.px *ℤ b.py)

-- a point lies to the right of the way back exactly where it lies to the left of the way
pub lean-turned : (a b p : Point) → lean a b p ≡ neg_ℤ (lean b a p)
lean-turned a b p = lean-terms a b p ∙ turned-terms a b p ∙ ap neg_ℤ (sym (lean-terms b a p))

negated : (m n : ℤ) → m ≡ neg_ℤ n → int_lt (pos 0) n ≡ int_lt m (pos 0)
negated m n e = grind (arith, ints)

pub left-turned : (a b p : Point) → int_lt (pos 0) (lean b a p) ≡ int_lt (lean a b p) (pos 0)
left-turned a b p = negated (lean a b p) (lean b a p) (lean-turned a b p)

regrouped : (d pr ar : ℤ) → d -ℤ (pr -ℤ ar) ≡ (d +ℤ ar) -ℤ pr
regrouped d pr ar = omega (arith, ints)

-- the lean of a point, by where the segment crosses its height
pub lean-across : (a b p : Point) → lean a b p ≡ (((b.px -ℤ a.px) *ℤ (p.py -ℤ a.py)) +ℤ (a.px *ℤ (b.py -ℤ a.py))) -ℤ (p.px *ℤ (b.py -ℤ a.py))
unfolding lean
lean-across a b p = rw (sub-mul p.px a.px (b.py -ℤ a.py)) (regrouped ((b.px -ℤ a.px) *ℤ (p.py -ℤ a.py)) (p.px *ℤ (b.py -ℤ a.py)) (a.px *ℤ (b.py -ℤ a.py)))

none_below : (across : ℤ) (m : ℕ) → int_lt across (pos 0) ≡ true → int_lt (pos 0) (across -ℤ pos m) ≡ false
none_below across m h = grind (arith, ints)

below : (across : ℤ) (m : ℕ) → int_lt across (pos 0) ≡ false → int_lt (pos 0) (across -ℤ pos m) ≡ nat_lt m (nat_abs across)
below across m h = grind (arith, ints, nat_tests)

-- a segment that crosses the row left of its first sample has no sample on its left
pub left-none : (a b : Point) (y across : ℤ) (m r : ℕ) → across ≡ ((b.px -ℤ a.px) *ℤ (y -ℤ a.py)) +ℤ (a.px *ℤ (b.py -ℤ a.py)) → b.py -ℤ a.py ≡ pos r → int_lt across (pos 0) ≡ true → int_lt (pos 0) (lean a b (record { px = pos m; py = y })) ≡ false
left-none a b y across m r e k h = rw (lean-across a b (record { px = pos m; py = y }), ← e, k) (none_below across (m * r) h)

pub left-below : (a b : Point) (y across : ℤ) (m r : ℕ) → across ≡ ((b.px -ℤ a.px) *ℤ (y -ℤ a.py)) +ℤ (a.px *ℤ (b.py -ℤ a.py)) → b.py -ℤ a.py ≡ pos r → int_lt across (pos 0) ≡ false → int_lt (pos 0) (lean a b (record { px = pos m; py = y })) ≡ nat_lt (m * r) (nat_abs across)
left-below a b y across m r e k h = rw (lean-across a b (record { px = pos m; py = y }), ← e, k) (below across (m * r) h)

-- a difference of two heights that rise
pub rise_is : (from to : ℤ) → int_lt from to ≡ true → to -ℤ from ≡ pos (nat_abs (to -ℤ from))
rise_is from to h = grind (arith, ints)

split : (a b : ℕ) → (a < b) ⊎ (b ≤ a)
split zero zero = inr (omega arith)
split zero (suc b) = inl (omega arith)
split (suc a) zero = inr (omega arith)
split (suc a) (suc b) = elim (split a b) [ inl l ↦ inl (omega (arith, l)) | inr h ↦ inr (omega (arith, h)) ]

both-true : (a b c d : ℕ) → a < b → c < d → nat_lt a b ≡ nat_lt c d
both-true a b c d h k = grind (arith, nat_tests)

both-false : (a b c d : ℕ) → b ≤ a → d ≤ c → nat_lt a b ≡ nat_lt c d
both-false a b c d h k = grind (arith, nat_tests)

doubled : (x r : ℕ) → (x + 1) * (2 * (360000 * r)) ≡ (2 * x + 1) * 360000 * r + 360000 * r
doubled x r =
    let twice : (x + 1) * (2 * 360000) ≡ (2 * x + 1) * 360000 + 360000 = omega arith in
    ap (λ k. (x + 1) * k) (sym (mul_assoc 2 360000 r)) ∙ sym (mul_assoc (x + 1) (2 * 360000) r) ∙ ap (λ k. k * r) twice ∙ add-mul ((2 * x + 1) * 360000) 360000 r

at_most : (x a q w k : ℕ) → (q < x + 1 → a + k - 1 < w) → w ≤ a + k - 1 → x < q
at_most x a q w k f h = elim (split x q) [ inl l ↦ l | inr g ↦ absurd (omega (arith, f (omega (arith, g)), h)) ]

-- rounding down leaves just the middles left of the crossing
pub floor-left : (x across r : ℕ) → 0 < r → nat_lt x ((across + 360000 * r - 1) / (2 * (360000 * r))) ≡ nat_lt ((2 * x + 1) * 360000 * r) across
floor-left x across r h =
    let some : 0 < 2 * (360000 * r) = omega (arith, h) in
    let q = (across + 360000 * r - 1) / (2 * (360000 * r)) in
    let same = div-lt_iff_lt-mul {k = 2 * (360000 * r)} {x = across + 360000 * r - 1} {y = x + 1} some in
    let w = (2 * x + 1) * 360000 * r in
    let wide : (x + 1) * (2 * (360000 * r)) ≡ w + 360000 * r = doubled x r in
    elim (split (across + 360000 * r - 1) (w + 360000 * r)) [
      | inl l ↦ let below : q < x + 1 = same.1 (rw wide l) in both-false x q w across (omega (arith, below)) (omega (arith, l, h))
      | inr g ↦ both-true x q w across (at_most x across q (w + 360000 * r) (360000 * r) (λ below. rw (← wide) (same.0 below)) g) (omega (arith, g, h))
    ]

pub none_at : (x : ℕ) → nat_lt x 0 ≡ false
none_at x = grind (arith, nat_tests)

pub rising_parts : (r from to : ℤ) → nat_abs from ≤ 100000000000000 → nat_abs to ≤ 100000000000000 → r ≡ to_z w64 (of_z w64 to) -ℤ to_z w64 (of_z w64 from) → to_z w64 (of_z w64 r) ≡ to -ℤ from
rising_parts = way_is
