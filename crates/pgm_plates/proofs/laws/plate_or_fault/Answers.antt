-- plate_or_fault: bytes are a plate file or have a fault.
use Rattle.pgm_plates.proofs.Judging.{plate_or_fault}
use Rattle.pgm_plates.proofs.laws.plate_or_fault.Goals as goal

pub returns : goal.returns
returns c = plate_or_fault
