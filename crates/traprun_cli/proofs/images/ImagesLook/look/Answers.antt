-- What `ImagesLook::look` has to show.
use Rattle.std.proofs.lemmas.Grind.{common_steps}
use Rattle.std.proofs.Common.{arith}
use Rattle.traprun_cli.proofs.ImageLemmas.{image_ends, image_fails, image_read, image_unread}
use Rattle.traprun_cli.proofs.images.ImagesLook.look.Goals as goal

pub returns-in-Ok-Some : goal.returns-in-Ok-Some
returns-in-Ok-Some g c = image_read c.args.self.now.page c.args.number c.args.name.now (g.T.Tray.state c.args.tray.now) (g.T.Tray.state c.read_page_plane.new.tray) c.in-Ok-Some.plane (rw c.in-Ok-Some.field-0-is at c.in-Ok-Some.ensures.in_range, rw c.in-Ok-Some.field-0-is at c.in-Ok-Some.ensures.few) (rw c.in-Ok-Some.field-0-is at c.in-Ok-Some.ensures.plate)

pub returns-in-Ok-None : goal.returns-in-Ok-None
returns-in-Ok-None g c = image_ends c.args.self.now.page c.args.number c.args.name.now (g.T.Tray.state c.args.tray.now) (g.T.Tray.state c.read_page_plane.new.tray) (rw c.in-Ok-None.field-0-is at c.in-Ok-None.ensures.plate)

pub returns-in-Err-Fault : goal.returns-in-Err-Fault
returns-in-Err-Fault g c = image_fails c.args.self.now.page c.args.number c.args.name.now (g.T.Tray.state c.args.tray.now) (g.T.Tray.state c.read_page_plane.new.tray) c.in-Err-Fault.fault (rw c.in-Err-Fault.field-0-is at c.in-Err-Fault.ensures.plate)

pub returns-in-Err-ReadFault : goal.returns-in-Err-ReadFault
returns-in-Err-ReadFault g c = image_unread c.args.self.now.page c.args.number c.args.name.now (g.T.Tray.state c.args.tray.now) (g.T.Tray.state c.read_page_plane.new.tray) (rw c.in-Err-ReadFault.field-0-is at c.in-Err-ReadFault.ensures.plate)

pub returns-in-Err-OutOfMemory : goal.returns-in-Err-OutOfMemory
returns-in-Err-OutOfMemory g c = grind (arith, common_steps)
