-- offset_point: the point that lies so far away from a near one; none where it is so far that it is
-- no near one.
use Rattle.std.proofs.lemmas.Grind.{common_steps}
use Rattle.std.proofs.Common.{◌≡◌, ◌≤◌, ◌+ℤ◌, FitsSigned, w64, true, arith, ℕ, ℤ, refl}
use Rattle.std.specs.Prelude.{nat_abs, nat_le}
use Rattle.std.proofs.lemmas.Bool.{and_parts}
use Rattle.std.proofs.lemmas.Bool.Decides.{nat_tests}
use Rattle.std.proofs.lemmas.Int.{ints}
use mir.Val.{to_z, of_z}
use Rattle.job_parts.proofs.pen.offset_point.Goals as goal

near_sum : (a d : ℤ) (n : ℕ) → nat_le (nat_abs a) 10000000000 ≡ true → FitsSigned w64 d → n ≡ nat_abs (to_z w64 (of_z w64 d)) → n ≤ 20000000000 → to_z w64 (of_z w64 (to_z w64 (of_z w64 a) +ℤ to_z w64 (of_z w64 d))) ≡ a +ℤ d
near_sum a d n near fits is few =
    let small : nat_abs a ≤ 10000000000 = grind (arith, nat_tests) in
    omega (arith, ints)

near_fits : (a d : ℤ) (n : ℕ) → nat_le (nat_abs a) 10000000000 ≡ true → FitsSigned w64 d → n ≡ nat_abs (to_z w64 (of_z w64 d)) → n ≤ 20000000000 → FitsSigned w64 (to_z w64 (of_z w64 a) +ℤ to_z w64 (of_z w64 d))
near_fits a d n near fits is few =
    let small : nat_abs a ≤ 10000000000 = grind (arith, nat_tests) in
    grind (arith, ints)

pub overflow_add-result : goal.overflow_add-result
overflow_add-result c =
    let both = and_parts (nat_le (nat_abs c.args.point.x) 10000000000) (nat_le (nat_abs c.args.point.y) 10000000000) c.requires in
    near_fits c.args.point.x c.args.dx c.unsigned_abs.result both.0 c.ranges.dx c.unsigned_abs.ensures.value c.if-unsigned_abs.false

pub overflow_add-result-2 : goal.overflow_add-result-2
overflow_add-result-2 c =
    let both = and_parts (nat_le (nat_abs c.args.point.x) 10000000000) (nat_le (nat_abs c.args.point.y) 10000000000) c.requires in
    near_fits c.args.point.y c.args.dy c.unsigned_abs-else-unsigned_abs.result both.1 c.ranges.dy c.unsigned_abs-else-unsigned_abs.ensures.value c.if-unsigned_abs-2.false

pub returns : goal.returns
returns c =
    let both = and_parts (nat_le (nat_abs c.args.point.x) 10000000000) (nat_le (nat_abs c.args.point.y) 10000000000) c.requires in
    let x = near_sum c.args.point.x c.args.dx c.unsigned_abs.result both.0 c.ranges.dx c.unsigned_abs.ensures.value c.if-unsigned_abs.false in
    let y = near_sum c.args.point.y c.args.dy c.unsigned_abs-else-unsigned_abs.result both.1 c.ranges.dy c.unsigned_abs-else-unsigned_abs.ensures.value c.if-unsigned_abs-2.false in
    rw (x, y) refl

pub returns-then-unsigned_abs : goal.returns-then-unsigned_abs
returns-then-unsigned_abs c = grind (arith, common_steps)
