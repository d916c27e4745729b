-- some_run_verdict: where the job and all plates are among the files, there is a verdict.
use Rattle.traprun_cli.proofs.SomeRunLemmas.{some_run_verdict}
use Rattle.traprun_cli.proofs.laws.some_run_verdict.Goals as goal

pub returns : goal.returns
returns c = some_run_verdict
