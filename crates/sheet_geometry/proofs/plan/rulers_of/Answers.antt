-- rulers_of: goals that the search finds slowly.
use Rattle.std.proofs.Common.{arith}
use Rattle.std.proofs.lemmas.Grind.{common_steps}
use Rattle.sheet_geometry.proofs.plan.rulers_of.Goals as goal

pub returns : goal.returns
returns c = grind (arith, common_steps)

pub bounds-planes-0-3 : goal.bounds-planes-0-3
bounds-planes-0-3 c = grind (arith, common_steps)

pub bounds-planes-0-4 : goal.bounds-planes-0-4
bounds-planes-0-4 c = grind (arith, common_steps)

pub bounds-planes-0-5 : goal.bounds-planes-0-5
bounds-planes-0-5 c = grind (arith, common_steps)

pub bounds-planes-0-6 : goal.bounds-planes-0-6
bounds-planes-0-6 c = grind (arith, common_steps)
