-- carry_out: reads the page, draws its inks back, and only then writes.
use Rattle.keep_words.specs.Stored.{keep_in}
use Rattle.trapkeep_cli.proofs.CarryLemmas.{page_put, page_unread}
use Rattle.trapkeep_cli.proofs.carry.carry_out.Goals as goal

pub returns-in-Ok : goal.returns-in-Ok
returns-in-Ok g c = page_put (keep_in c.args.command.now) c.in-Ok.page (g.T.Tray.state c.args.tray.now) (g.T.Tray.state c.read_page.new.tray) (g.R.Rack.state c.args.rack.now) (g.R.Rack.state c.put_page.new.rack) c.put_page.result c.in-Ok.ensures c.put_page.ensures

pub returns-in-Err : goal.returns-in-Err
returns-in-Err g c = page_unread (keep_in c.args.command.now) (g.T.Tray.state c.args.tray.now) (g.T.Tray.state c.read_page.new.tray) (g.R.Rack.state c.args.rack.now) c.in-Err.error c.in-Err.ensures
