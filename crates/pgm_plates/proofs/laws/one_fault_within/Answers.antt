-- one_fault_within: within any bounds.
use Rattle.pgm_plates.proofs.Facts.{one_fault_within}
use Rattle.pgm_plates.proofs.laws.one_fault_within.Goals as goal

pub returns : goal.returns
returns c = one_fault_within c.args.bounds
