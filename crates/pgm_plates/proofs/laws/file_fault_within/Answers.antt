-- file_fault_within: within any bounds.
use Rattle.pgm_plates.proofs.Facts.{file_fault}
use Rattle.pgm_plates.proofs.laws.file_fault_within.Goals as goal

pub returns : goal.returns
returns c = file_fault c.args.bounds
