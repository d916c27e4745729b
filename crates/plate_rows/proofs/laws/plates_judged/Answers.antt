-- plates_judged: what is so of plates that were judged.
use Rattle.plate_rows.proofs.JudgedLemmas.{judging_ends, judging_stops}
use Rattle.plate_rows.proofs.laws.plates_judged.Goals as goal

pub returns-clause-ends : goal.returns-clause-ends
returns-clause-ends c = judging_ends c.file_plate_within.ensures

pub returns-clause-stops : goal.returns-clause-stops
returns-clause-stops c = judging_stops c.file_plate_within.ensures
