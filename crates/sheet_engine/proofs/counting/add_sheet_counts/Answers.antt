-- add_sheet_counts: adds to the counts of a sheet those of a part of it.
use Rattle.std.proofs.Common.{arith}
use Rattle.std.proofs.lemmas.Grind.{common_steps}
use Rattle.sheet_engine.proofs.counting.add_sheet_counts.Goals as goal

pub returns : goal.returns
returns c = grind (arith, common_steps)

pub add_counts-requires-2-clause-few : goal.add_counts-requires-2-clause-few
add_counts-requires-2-clause-few c = grind (arith, common_steps)

pub add_counts-requires-3-clause-few : goal.add_counts-requires-3-clause-few
add_counts-requires-3-clause-few c = grind (arith, common_steps)
