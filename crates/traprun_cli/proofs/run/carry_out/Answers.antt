-- carry_out: reads the job, and page after page reads, traps and writes; and looks after the last
-- page.
use Rattle.traprun_cli.proofs.RunLemmas.{carried, not_carried}
use Rattle.traprun_cli.proofs.run.carry_out.Goals as goal

pub returns-in-Ok : goal.returns-in-Ok
returns-in-Ok g c = carried c.args.order.now (g.T.Tray.state c.args.tray.now) (g.T.Tray.state c.open_job.new.tray) (g.T.Tray.state c.trap_job.new.tray) (g.R.Rack.state c.args.rack.now) (g.R.Rack.state c.trap_job.new.rack) c.in-Ok.opened c.trap_job.result c.in-Ok.ensures c.trap_job.ensures

pub returns-in-Err : goal.returns-in-Err
returns-in-Err g c = not_carried c.args.order.now (g.T.Tray.state c.args.tray.now) (g.T.Tray.state c.open_job.new.tray) (g.R.Rack.state c.args.rack.now) c.in-Err.error c.in-Err.ensures
