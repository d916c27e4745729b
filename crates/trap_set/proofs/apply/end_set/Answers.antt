-- end_set: looks for bytes after the last line, which would be a bad one of that number.
use Rattle.trap_set.proofs.StandLemmas.{byte_after}
use Rattle.trap_set.proofs.apply.end_set.Goals as goal

pub returns-in-Ok-Some : goal.returns-in-Ok-Some
returns-in-Ok-Some g c = byte_after c.args.number _ (g.T.Tray.state c.args.tray.now) (g.T.Tray.state c.next_byte.new.tray) _ _ (rw c.in-Ok-Some.field-0-is at c.in-Ok-Some.ensures.byte)
