-- trap_pages: traps all pages of the job, in their order.
use Rattle.std.proofs.Common.{◌≡◌, ◌<◌, length, [], refl, arith}
use Rattle.traprun_cli.proofs.PageLemmas.{no_page_done, pages_more, pages_stopped}
use Rattle.traprun_cli.proofs.RunLemmas.{same_count}
use Rattle.traprun_cli.specs.Opened.{order_in}
use Rattle.traprun_cli.specs.Words.{sources_of, targets_of}
use Rattle.traprun_cli.proofs.run.trap_pages.Goals as goal

pub loop-page-init : goal.loop-page-init
loop-page-init g c tray opened =
    let order = order_in c.args.opened.now.order.now in
    ([], refl, no_page_done (sources_of order) (targets_of order) tray (g.T.Tray.state c.args.tray.now) (g.R.Rack.state c.args.rack.now) opened.keeps opened.calm opened.asked opened.few)

pub loop-page-preserved : goal.loop-page-preserved
loop-page-preserved g c tray opened =
    let order = order_in c.args.opened.now.order.now in
    let before = c.loop-page.invariant tray opened in
    pages_more (sources_of order) (targets_of order) c.args.opened.now.job c.loop-page.page tray (g.T.Tray.state c.loop-page.tray) (g.T.Tray.state c.trap_one.new.tray) (g.R.Rack.state c.args.rack.now) (g.R.Rack.state c.loop-page.rack) (g.R.Rack.state c.trap_one.new.rack) before.0 before.1 before.2 opened.known c.in-Ok.ensures

pub returns-in-Err : goal.returns-in-Err
returns-in-Err g c tray opened =
    let order = order_in c.args.opened.now.order.now in
    let before = c.loop-page.invariant tray opened in
    let same : c.count-page-end.result ≡ opened.count = same_count c.args.opened.now.job opened.count c.count-page-end.result opened.has c.count-page-end.ensures in
    let within : c.loop-page.page < opened.count = omega arith in
    pages_stopped (sources_of order) (targets_of order) c.args.opened.now.job c.loop-page.page tray (g.T.Tray.state c.loop-page.tray) (g.T.Tray.state c.trap_one.new.tray) (g.R.Rack.state c.args.rack.now) (g.R.Rack.state c.loop-page.rack) (g.R.Rack.state c.trap_one.new.rack) before.0 before.1 before.2 opened.known opened.count c.in-Err.error opened.has within c.in-Err.ensures

pub returns : goal.returns
returns g c tray opened =
    let before = c.loop-page.invariant tray opened in
    let same : c.count-page-end.result ≡ opened.count = same_count c.args.opened.now.job opened.count c.count-page-end.result opened.has c.count-page-end.ensures in
    let all : length before.0 ≡ opened.count = omega (arith, before.1) in
    (before.0, all, before.2)
