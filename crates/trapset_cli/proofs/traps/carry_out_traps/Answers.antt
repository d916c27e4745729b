-- carry_out_traps: carries out a command `traps`.
use Rattle.trapset_cli.specs.Stored.{traps_in}
use Rattle.trapset_cli.proofs.TrapsLemmas.{page_put}
use Rattle.trapset_cli.proofs.traps.carry_out_traps.Goals as goal

pub returns-in-Ok : goal.returns-in-Ok
returns-in-Ok g c = page_put (traps_in c.args.command.now) c.in-Ok.page (g.T.Tray.state c.args.tray.now) (g.T.Tray.state c.read_page.new.tray) (g.R.Rack.state c.args.rack.now) (g.R.Rack.state c.put_set.new.rack) c.put_set.result c.in-Ok.ensures c.put_set.ensures
