-- read_on: reads on in a file of which so many bytes were taken.
use Rattle.std.proofs.Common.{length, rules}
use Rattle.outside.proofs.MemReads.{given}
use Rattle.outside.proofs.mem_tray.read_on.Goals as goal

pub returns-clause-given : goal.returns-clause-given
returns-clause-given c = given c.args.file.now.bytes c.give.new.buf c.args.taken c.end_of_read-end.result c.give.result c.args.grain (length c.args.buf.now) (grind (rules)) (grind (rules))
