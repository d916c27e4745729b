-- open_job: reads the job of a run.
use Rattle.std.proofs.Common.{refl}
use Rattle.traprun_cli.specs.Gathering.{OpensJob}
use Rattle.traprun_cli.proofs.OpenLemmas.{run_stored}
use Rattle.traprun_cli.proofs.gather.open_job.Goals as goal

pub returns-in-Ok : goal.returns-in-Ok
returns-in-Ok g c = run_stored (record { order = c.args.order; names = c.in-Ok-Ok.names; inputs = c.in-Ok-Ok.inputs; job = c.in-Ok.job }) (g.T.Tray.state c.args.tray.now) (g.T.Tray.state c.read_run_job.new.tray) (record { within = c.requires; names = c.in-Ok-Ok.ensures; inputs = c.in-Ok-Ok.ensures' }) c.in-Ok.ensures

pub returns : goal.returns
returns g c = OpensJob.stopped c.in-Err.error refl c.in-Err.ensures
