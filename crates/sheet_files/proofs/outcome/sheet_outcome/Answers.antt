-- sheet_outcome: goals that the search finds slowly.
use Rattle.std.proofs.lemmas.Grind.{common_steps}
use Rattle.std.proofs.Common.{arith}
use Rattle.sheet_files.proofs.outcome.sheet_outcome.Goals as goal

pub with_report-requires : goal.with_report-requires
with_report-requires c = grind (arith, common_steps)
