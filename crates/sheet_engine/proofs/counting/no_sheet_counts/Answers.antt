-- no_sheet_counts: goals that the search finds slowly.
use Rattle.std.proofs.lemmas.Grind.{common_steps}
use Rattle.std.proofs.Common.{arith}
use Rattle.sheet_engine.proofs.counting.no_sheet_counts.Goals as goal

pub returns : goal.returns
returns c = grind (arith, common_steps)
