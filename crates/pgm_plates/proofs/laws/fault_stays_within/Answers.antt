-- fault_stays_within: within any bounds.
use Rattle.pgm_plates.proofs.Facts.{fault_stays_within}
use Rattle.pgm_plates.proofs.laws.fault_stays_within.Goals as goal

pub returns : goal.returns
returns c = fault_stays_within c.args.bounds
