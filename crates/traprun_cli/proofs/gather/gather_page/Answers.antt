-- gather_page: reads the page of that number, counted from 0.
use Rattle.std.proofs.Common.{Err, sym, subst}
use Rattle.traprun_cli.specs.Gathering.{GathersPage}
use Rattle.traprun_cli.specs.Opened.{order_in}
use Rattle.traprun_cli.specs.Words.{sources_of}
use Rattle.traprun_cli.proofs.GatherLemmas.{job_stopped}
use Rattle.traprun_cli.specs.declared.error.TraprunError.{TraprunError}
use Rattle.traprun_cli.proofs.gather.gather_page.Goals as goal

pub returns-in-Err : goal.returns-in-Err
returns-in-Err g c =
    let source = sources_of (order_in c.args.opened.now.order.now) in
    let tray = g.T.Tray.state c.args.tray.now in
    subst (λ (error : TraprunError). GathersPage source c.args.opened.now.job c.args.page tray tray (Err error)) (sym c.job_error.ensures) (job_stopped source c.args.opened.now.job c.args.page tray tray c.in-Err.common_error c.in-Err.ensures.given)
