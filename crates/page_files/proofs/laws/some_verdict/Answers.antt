-- some_verdict: where the job and all plates are among the files, there is a verdict.
use Rattle.page_files.specs.Inputs.{one_page}
use Rattle.page_files.proofs.SomeLemmas.{some_verdict}
use Rattle.page_files.proofs.laws.some_verdict.Goals as goal

pub returns : goal.returns
returns c = some_verdict one_page c.plate_or_fault.ensures
