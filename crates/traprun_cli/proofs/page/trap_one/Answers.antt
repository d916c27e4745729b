-- trap_one: reads the page of that number, traps it, and writes its files.
use Rattle.std.proofs.lemmas.Result.{err_from_is_err_and}
use Rattle.traprun_cli.proofs.PutLemmas.{gathered_and_put, not_gathered}
use Rattle.traprun_cli.specs.Opened.{order_in}
use Rattle.traprun_cli.specs.Words.{sources_of, targets_of}
use Rattle.std.proofs.Common.{◌∙◌}
use Rattle.traprun_cli.proofs.OpenLemmas.{as_many_sources}
use Rattle.traprun_cli.proofs.page.trap_one.Goals as goal

pub returns : goal.returns
returns g c =
    let order = order_in c.args.opened.now.order.now in
    gathered_and_put (sources_of order) (targets_of order) c.args.opened.now.job c.args.page (g.T.Tray.state c.args.tray.now) (g.T.Tray.state c.gather_page.new.tray) c.in_ok-made.made (g.R.Rack.state c.args.rack.now) (g.R.Rack.state c.put_page.new.rack) c.put_page.result c.in_ok-made.ensures c.put_page.ensures

pub returns-in_err-made : goal.returns-in_err-made
returns-in_err-made g c =
    let p = err_from_is_err_and c.from_residual.result c.from_residual.ensures.1 in
    rw (p.1, p.2) (
    let order = order_in c.args.opened.now.order.now in
    not_gathered (sources_of order) (targets_of order) c.args.opened.now.job c.args.page (g.T.Tray.state c.args.tray.now) (g.T.Tray.state c.gather_page.new.tray) (g.R.Rack.state c.args.rack.now) c.in_err-made.field-0.0 c.in_err-made.ensures
    )

pub put_page-requires-clause-count : goal.put_page-requires-clause-count
put_page-requires-clause-count g c κs lives = c.in_ok-made.ensures.count ∙ as_many_sources c.args.opened.now
