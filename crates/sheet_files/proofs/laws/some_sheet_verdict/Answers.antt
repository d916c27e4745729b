-- some_sheet_verdict: where the job and all plates have files, there is a verdict.
use Rattle.sheet_files.proofs.SomeLemmas.{some_verdict}
use Rattle.sheet_files.proofs.laws.some_sheet_verdict.Goals as goal

pub returns : goal.returns
returns c = some_verdict c.plate_or_fault_within.ensures
