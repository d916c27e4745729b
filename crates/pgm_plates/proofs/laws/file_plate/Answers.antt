-- file_plate: a plate that is read is the one that the whole file spells, where the tray tells its
-- bytes.
use Rattle.pgm_plates.specs.declared.bounds.Bounds.TheVariants.{Page}
use Rattle.pgm_plates.proofs.Facts.{file_plate}
use Rattle.pgm_plates.proofs.laws.file_plate.Goals as goal

pub returns : goal.returns
returns c = file_plate Page
