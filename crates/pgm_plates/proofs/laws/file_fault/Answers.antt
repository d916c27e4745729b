-- file_fault: a fault that is answered is the one of the whole file, where the tray tells its
-- bytes.
use Rattle.pgm_plates.specs.declared.bounds.Bounds.TheVariants.{Page}
use Rattle.pgm_plates.proofs.Facts.{file_fault}
use Rattle.pgm_plates.proofs.laws.file_fault.Goals as goal

pub returns : goal.returns
returns c = file_fault Page
