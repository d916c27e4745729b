-- add: adds the arm of one column where it has a code, and gives the new number of arms.
use Rattle.std.proofs.Common.{arith}
use Rattle.row_values.proofs.ArmsLemmas.{added}
use Rattle.row_values.proofs.arms.add.Goals as goal

pub returns-clause-so_far : goal.returns-clause-so_far
returns-clause-so_far c = added c.args.codes.now c.args.x2 _ _ _ _ (omega arith) c.arm_at.ensures (omega (arith, c.requires.so_far.few)) (omega (arith, c.requires.so_far.few)) c.requires.so_far
