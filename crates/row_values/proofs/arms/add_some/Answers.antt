-- add_some: adds the arms of so many columns from x2 on, and gives the new number of arms.
use Rattle.std.proofs.Common.{arith}
use Rattle.std.proofs.lemmas.Grind.{common_steps}
use Rattle.row_values.proofs.ArmsLemmas.{added_blank}
use Rattle.row_values.proofs.arms.add_some.Goals as goal

pub returns-then-are_zero-clause-so_far : goal.returns-then-are_zero-clause-so_far
returns-then-are_zero-clause-so_far c = added_blank c.args.codes.now c.args.x2 c.args.count _ _ c.args.before (c.are_zero.ensures.only c.if-are_zero.true) c.requires.so_far

pub returns-clause-so_far : goal.returns-clause-so_far
returns-clause-so_far c = grind (arith, common_steps)

pub loop-k-preserved : goal.loop-k-preserved
loop-k-preserved c = grind (arith, common_steps)
