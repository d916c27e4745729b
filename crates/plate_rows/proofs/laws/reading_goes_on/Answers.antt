-- reading_goes_on: what was read of each plate.
use Rattle.plate_rows.proofs.ErrorLemmas.{reading_begins, reading_ends, reading_grows}
use Rattle.plate_rows.proofs.laws.reading_goes_on.Goals as goal

pub returns-clause-begins : goal.returns-clause-begins
returns-clause-begins c = reading_begins

pub returns-clause-grows : goal.returns-clause-grows
returns-clause-grows c = reading_grows

pub returns-clause-ends : goal.returns-clause-ends
returns-clause-ends c = reading_ends
