-- inks_of: goals that the search finds slowly.
use Rattle.std.proofs.lemmas.Grind.{common_steps}
use Rattle.std.proofs.Common.{arith}
use Rattle.sheet_geometry.proofs.copies.inks_of.Goals as goal

pub loop-ink-preserved : goal.loop-ink-preserved
loop-ink-preserved c = grind (arith, common_steps)
