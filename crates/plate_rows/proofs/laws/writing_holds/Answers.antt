-- writing_holds: what stands under a plate's name while it is written.
use Rattle.plate_rows.proofs.WriteLemmas.{writing_holds}
use Rattle.plate_rows.proofs.laws.writing_holds.Goals as goal

pub returns : goal.returns
returns c = writing_holds
