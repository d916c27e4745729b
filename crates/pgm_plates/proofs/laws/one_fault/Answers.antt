-- one_fault: bytes have at most one fault.
use Rattle.pgm_plates.proofs.Facts.{one_fault}
use Rattle.pgm_plates.proofs.laws.one_fault.Goals as goal

pub returns : goal.returns
returns c = one_fault
