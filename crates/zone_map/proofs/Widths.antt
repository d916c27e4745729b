-- That products and sums of coordinates fit 128 bits.
use Rattle.std.proofs.Common.{◌≡◌, refl, ℕ, ◌*◌, ◌≤◌, arith, w64}
use Rattle.std.specs.Int.{w128}
use Rattle.std.specs.Prelude.{ℤ, ◌+ℤ◌, ◌-ℤ◌, ◌*ℤ◌, nat_abs, pos}
use Rattle.std.proofs.Math.Nat.{mul-le-mul}
use Rattle.std.proofs.lemmas.Int.{ints, unsigned_abs-mul}
use mir.Val.{SFits, to_z, of_z}

-- a number of 64 bits is the same in 128
pub widened : (r z : ℤ) → SFits w64 z → r ≡ to_z w64 (of_z w64 z) → to_z w128 (of_z w128 r) ≡ z
widened r z f e = omega (arith, ints)

pub product_at_most : (a b : ℤ) (m : ℕ) → nat_abs a ≤ m → nat_abs b ≤ m → nat_abs (a *ℤ b) ≤ m * m
product_at_most a b m h k = rw (unsigned_abs-mul a b) (mul-le-mul h k)

pub scaled_at_most : (z : ℤ) (n : ℕ) → nat_abs z ≤ 10000000000 → n ≤ 10000 → nat_abs (z *ℤ pos n) ≤ 100000000000000
scaled_at_most z n h k = rw (unsigned_abs-mul z (pos n)) (mul-le-mul h k)

-- a sum of two products fits
pub sum_fits : (a b : ℤ) → nat_abs a ≤ 40000000000000000000000000000 → nat_abs b ≤ 40000000000000000000000000000 → SFits w128 (to_z w128 (of_z w128 a) +ℤ to_z w128 (of_z w128 b))
sum_fits a b h k = omega (arith, ints)

pub whole_sum_is : (a b : ℤ) → nat_abs a ≤ 40000000000000000000000000000 → nat_abs b ≤ 40000000000000000000000000000 → to_z w128 (of_z w128 (to_z w128 (of_z w128 a) +ℤ to_z w128 (of_z w128 b))) ≡ a +ℤ b
whole_sum_is a b h k = omega (arith, ints)

-- a difference of two coordinates
pub way_is : (r from to : ℤ) → nat_abs from ≤ 100000000000000 → nat_abs to ≤ 100000000000000 → r ≡ to_z w64 (of_z w64 to) -ℤ to_z w64 (of_z w64 from) → to_z w64 (of_z w64 r) ≡ to -ℤ from
way_is r from to h k e = omega (arith, ints)

pub same_sum : (m n a b x c a' b' x' c' : ℤ) → m ≡ a *ℤ b → n ≡ x *ℤ c → a ≡ a' → b ≡ b' → x ≡ x' → c ≡ c' → m +ℤ n ≡ (a' *ℤ b') +ℤ (x' *ℤ c')
same_sum m n a b x c a' b' x' c' e f g h i k = rw (e, f, g, h, i, k) refl

pub near_64 : (z : ℤ) → nat_abs z ≤ 100000000000000 → to_z w64 (of_z w64 z) ≡ z
near_64 z h = omega (arith, ints)

pub pos_64 : (r : ℤ) (n : ℕ) → r ≡ pos n → n ≤ 10000 → to_z w64 (of_z w64 r) ≡ pos n
pos_64 r n e h = omega (arith, ints)

pub near_128 : (z : ℤ) → nat_abs z ≤ 80000000000000000000000000000 → to_z w128 (of_z w128 z) ≡ z
near_128 z h = omega (arith, ints)
