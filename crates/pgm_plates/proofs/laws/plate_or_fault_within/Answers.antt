-- plate_or_fault_within: within any bounds.
use Rattle.pgm_plates.proofs.Judging.{plate_or_fault_within}
use Rattle.pgm_plates.proofs.laws.plate_or_fault_within.Goals as goal

pub returns : goal.returns
returns c = plate_or_fault_within c.args.bounds
