-- file_plate_within: within any bounds.
use Rattle.pgm_plates.proofs.Facts.{file_plate}
use Rattle.pgm_plates.proofs.laws.file_plate_within.Goals as goal

pub returns : goal.returns
returns c = file_plate c.args.bounds
