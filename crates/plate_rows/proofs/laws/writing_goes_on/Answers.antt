-- writing_goes_on: what was written of each plate.
use Rattle.plate_rows.proofs.WriteLemmas.{writing_breaks, writing_ends, writing_grows, writing_leaves}
use Rattle.plate_rows.proofs.laws.writing_goes_on.Goals as goal

pub returns-clause-grows : goal.returns-clause-grows
returns-clause-grows c = writing_grows

pub returns-clause-breaks : goal.returns-clause-breaks
returns-clause-breaks c = writing_breaks

pub returns-clause-ends : goal.returns-clause-ends
returns-clause-ends c = writing_ends

pub returns-clause-leaves : goal.returns-clause-leaves
returns-clause-leaves c = writing_leaves
