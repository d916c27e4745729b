-- read_run_job: reads the job of that name.
use Rattle.std.proofs.Common.{arith}
use Rattle.traprun_cli.proofs.JobLemmas.{job_judged}
use Rattle.traprun_cli.proofs.job.read_run_job.Goals as goal

pub returns-in-Ok : goal.returns-in-Ok
returns-in-Ok g c =
    let read = c.in-Ok.ensures in
    job_judged _ (omega arith) c.args.name.now (g.T.Tray.state c.args.tray.now) (g.T.Tray.state c.read_file.new.tray) c.in-Ok.bytes c.pages_or_error.result read.keeps read.asked read.few read.taken read.well c.pages_or_error.ensures
