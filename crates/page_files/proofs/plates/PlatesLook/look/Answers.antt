-- What `PlatesLook::look` has to show.
use Rattle.std.proofs.Common.{rules}
use Rattle.page_files.proofs.PlateLemmas.{one_read, one_refused}
use Rattle.page_files.proofs.plates.PlatesLook.look.Goals as goal

pub returns-in-Ok : goal.returns-in-Ok
returns-in-Ok g c = one_read c.file_plate.ensures c.args.number c.args.name.now (g.T.Tray.state c.args.tray.now) (g.T.Tray.state c.read_plane.new.tray) c.in-Ok.read c.in-Ok.ensures.plate (search rules)

pub returns-in-Err-Fault : goal.returns-in-Err-Fault
returns-in-Err-Fault g c = one_refused c.file_fault.ensures c.args.number c.args.name.now (g.T.Tray.state c.args.tray.now) (g.T.Tray.state c.read_plane.new.tray) c.in-Err-Fault.fault (rw c.in-Err-Fault.field-0-is at c.in-Err-Fault.ensures.plate)
