-- What `square_of_gap` has to show.
use Rattle.std.proofs.Common.{◌≤◌, ◌*◌, arith}
use Rattle.std.proofs.Math.Nat.{mul-le-mul}
use Rattle.page_model.proofs.edges.square_of_gap.Goals as goal

pub returns-clause-bound : goal.returns-clause-bound
returns-clause-bound c =
    let away = c.abs_diff-away.result in
    let small : away ≤ 32767 = omega (arith, c.abs_diff-away.ensures, c.requires.a, c.requires.b) in
    let bound : away * away ≤ 32767 * 32767 = mul-le-mul small small in
    omega (arith, bound)
