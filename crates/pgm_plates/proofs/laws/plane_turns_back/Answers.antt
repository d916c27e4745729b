-- plane_turns_back: a plane that is turned into a plate and back is as before.
use Rattle.pgm_plates.proofs.Facts.{plane_turns_back}
use Rattle.pgm_plates.proofs.laws.plane_turns_back.Goals as goal

pub returns : goal.returns
returns c = plane_turns_back
