-- one_plate_within: within any bounds.
use Rattle.pgm_plates.proofs.Facts.{one_plate_within}
use Rattle.pgm_plates.proofs.laws.one_plate_within.Goals as goal

pub returns : goal.returns
returns c = one_plate_within c.args.bounds
