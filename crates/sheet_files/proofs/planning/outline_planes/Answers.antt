-- bare_planes: goals that the search finds slowly.
use Rattle.std.proofs.lemmas.Grind.{common_steps}
use Rattle.std.proofs.Common.{arith}
use Rattle.sheet_files.proofs.planning.outline_planes.Goals as goal

pub returns : goal.returns
returns c = grind (arith, common_steps)

pub loop-header-preserved : goal.loop-header-preserved
loop-header-preserved c = grind (arith, common_steps)
