-- end_of_file: looks for a byte after the raster.
use Rattle.std.proofs.Common.{rules, arith, get_or, refl}
use Rattle.std.proofs.lemmas.Grind.{common_steps}
use Rattle.pgm_plates.proofs.Headers.{takes_one, takes_end, takes_failed}
use Rattle.pgm_plates.proofs.reading.end_of_file.Goals as goal

pub returns-in-Ok-eq0-clause-answer : goal.returns-in-Ok-eq0-clause-answer
returns-in-Ok-eq0-clause-answer g c = takes_end (g.T.Tray.state c.args.tray.now) (g.T.Tray.state c.read.new.self) c.read.new.buf c.in-Ok-eq0.field-0 c.in-Ok-eq0.ensures (search rules) (search rules)

pub returns-in-Ok-clause-answer : goal.returns-in-Ok-clause-answer
returns-in-Ok-clause-answer g c =
    let byte = get_or c.read.new.buf 0 0 in
    (byte, takes_one (g.T.Tray.state c.args.tray.now) (g.T.Tray.state c.read.new.self) c.read.new.buf c.in-Ok.field-0 byte c.in-Ok.ensures (search rules) (search rules) (grind (arith, common_steps)), refl)

pub returns-in-Err-clause-answer : goal.returns-in-Err-clause-answer
returns-in-Err-clause-answer g c = (takes_failed (g.T.Tray.state c.args.tray.now) (g.T.Tray.state c.read.new.self) c.read.new.buf _ c.in-Err.ensures, c.in-Err.ensures.reason)
