-- What `EndsLook::look` has to show.
use Rattle.std.proofs.lemmas.Grind.{common_steps}
use Rattle.std.proofs.Common.{arith}
use Rattle.traprun_cli.proofs.ImageLemmas.{end_extra, end_fails, end_unread}
use Rattle.traprun_cli.proofs.images.EndsLook.look.Goals as goal

pub returns-in-Ok-Some : goal.returns-in-Ok-Some
returns-in-Ok-Some g c = end_extra c.args.self.now.pages c.args.number c.args.name.now (g.T.Tray.state c.args.tray.now) (g.T.Tray.state c.read_page.new.tray) _ (rw c.in-Ok-Some.field-0-is at c.in-Ok-Some.ensures)

pub returns-in-Err-Fault : goal.returns-in-Err-Fault
returns-in-Err-Fault g c = end_fails c.args.self.now.pages c.args.number c.args.name.now (g.T.Tray.state c.args.tray.now) (g.T.Tray.state c.read_page.new.tray) c.in-Err-Fault.fault (rw c.in-Err-Fault.field-0-is at c.in-Err-Fault.ensures)

pub returns-in-Err-ReadFault : goal.returns-in-Err-ReadFault
returns-in-Err-ReadFault g c = end_unread c.args.self.now.pages c.args.number c.args.name.now (g.T.Tray.state c.args.tray.now) (g.T.Tray.state c.read_page.new.tray) (rw c.in-Err-ReadFault.field-0-is at c.in-Err-ReadFault.ensures)

pub returns : goal.returns
returns g c = grind (arith, common_steps)
