-- zones_of: goals that the search finds slowly.
use Rattle.std.proofs.Common.{arith}
use Rattle.std.proofs.lemmas.Grind.{common_steps}
use Rattle.row_values.proofs.marks.zones_of.Goals as goal

pub returns-then-y-height-clause-zones : goal.returns-then-y-height-clause-zones
returns-then-y-height-clause-zones c = grind (arith, common_steps)

pub row_of_bytes-requires-clause-inside : goal.row_of_bytes-requires-clause-inside
row_of_bytes-requires-clause-inside c = grind (arith, common_steps)
