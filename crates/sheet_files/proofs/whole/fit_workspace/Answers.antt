-- fit_room: the buffers for a strip, those of the strip before or new ones.
use Rattle.std.proofs.Common.{arith}
use Rattle.std.proofs.lemmas.Grind.{common_steps}
use Rattle.sheet_files.proofs.whole.fit_workspace.Goals as goal

pub returns-then-before-row-clause-workspace : goal.returns-then-before-row-clause-workspace
returns-then-before-row-clause-workspace c = grind (arith, common_steps)

pub returns-then-before-row-clause-columns : goal.returns-then-before-row-clause-columns
returns-then-before-row-clause-columns c = grind (arith, common_steps)

pub new-requires-clause-row : goal.new-requires-clause-row
new-requires-clause-row c = grind (arith, common_steps)
