-- fault_stays: a fault stays, whatever comes after the bytes that have it, but for an early end.
use Rattle.pgm_plates.proofs.Facts.{fault_stays}
use Rattle.pgm_plates.proofs.laws.fault_stays.Goals as goal

pub returns : goal.returns
returns c = fault_stays
