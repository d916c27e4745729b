-- fill: goals that the search finds slowly.
use Rattle.std.proofs.Common.{arith}
use Rattle.std.proofs.lemmas.Grind.{common_steps}
use Rattle.band_pieces.proofs.fills.fill.Goals as goal

pub fill_tints-requires-clause-lies : goal.fill_tints-requires-clause-lies
fill_tints-requires-clause-lies g c = grind (arith, common_steps)

pub fill_zones-requires-clause-lies : goal.fill_zones-requires-clause-lies
fill_zones-requires-clause-lies g c = grind (arith, common_steps)

pub fill_tints-requires-clause-zones : goal.fill_tints-requires-clause-zones
fill_tints-requires-clause-zones g c = grind (arith, common_steps)

pub fill_answers-requires-clause-lies : goal.fill_answers-requires-clause-lies
fill_answers-requires-clause-lies g c = grind (arith, common_steps)

pub fill_marks-requires-clause-lies : goal.fill_marks-requires-clause-lies
fill_marks-requires-clause-lies g c = grind (arith, common_steps)

pub fill_marks-requires-clause-marks : goal.fill_marks-requires-clause-marks
fill_marks-requires-clause-marks g c = grind (arith, common_steps)

pub fill_zones-requires-clause-zones : goal.fill_zones-requires-clause-zones
fill_zones-requires-clause-zones g c = grind (arith, common_steps)

pub fill_tints-requires-clause-phase : goal.fill_tints-requires-clause-phase
fill_tints-requires-clause-phase g c = grind (arith, common_steps)

pub fill_marks-requires-clause-phase : goal.fill_marks-requires-clause-phase
fill_marks-requires-clause-phase g c = grind (arith, common_steps)

pub fill_answers-requires-clause-phase : goal.fill_answers-requires-clause-phase
fill_answers-requires-clause-phase g c = grind (arith, common_steps)

pub fill_tints-requires-clause-workspace : goal.fill_tints-requires-clause-workspace
fill_tints-requires-clause-workspace g c = grind (arith, common_steps)

pub fill_zones-requires-clause-phase : goal.fill_zones-requires-clause-phase
fill_zones-requires-clause-phase g c = grind (arith, common_steps)

pub fill_zones-requires-clause-workspace : goal.fill_zones-requires-clause-workspace
fill_zones-requires-clause-workspace g c = grind (arith, common_steps)

pub nonzero_div-task : goal.nonzero_div-task
nonzero_div-task g c = grind (arith, common_steps)
