-- outcome_of: goals that the search finds slowly.
use Rattle.std.proofs.lemmas.Grind.{common_steps}
use Rattle.std.proofs.Common.{arith}
use Rattle.sheet_files.proofs.outcome.outcome_of.Goals as goal

pub cut_outcome-requires-clause-can : goal.cut_outcome-requires-clause-can
cut_outcome-requires-clause-can c = grind (arith, common_steps)

pub whole_outcome-requires : goal.whole_outcome-requires
whole_outcome-requires c = grind (arith, common_steps)

pub cut_outcome-requires-in-Windows-clause-can : goal.cut_outcome-requires-in-Windows-clause-can
cut_outcome-requires-in-Windows-clause-can c = grind (arith, common_steps)
