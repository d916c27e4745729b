-- one_plate: a plate file has one plate.
use Rattle.pgm_plates.proofs.Facts.{one_plate}
use Rattle.pgm_plates.proofs.laws.one_plate.Goals as goal

pub returns : goal.returns
returns c = one_plate
