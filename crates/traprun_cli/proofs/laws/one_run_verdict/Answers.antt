-- one_run_verdict: the bytes of a run's files have one verdict at most.
use Rattle.traprun_cli.proofs.RunVerdictLemmas.{one_run_verdict}
use Rattle.traprun_cli.proofs.laws.one_run_verdict.Goals as goal

pub returns : goal.returns
returns c = one_run_verdict
