-- not_both: a plate file has no fault.
use Rattle.pgm_plates.proofs.Facts.{not_both}
use Rattle.pgm_plates.proofs.laws.not_both.Goals as goal

pub returns : goal.returns
returns c = not_both
