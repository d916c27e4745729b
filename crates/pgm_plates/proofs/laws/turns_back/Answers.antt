-- turns_back: a plate that is turned into a plane and back is as before.
use Rattle.pgm_plates.specs.declared.bounds.Bounds.TheVariants.{Page}
use Rattle.pgm_plates.proofs.Facts.{turns_back}
use Rattle.pgm_plates.proofs.laws.turns_back.Goals as goal

pub returns : goal.returns
returns c = turns_back Page
