-- write_and_read: writes the core of the strip that waits for it, each plate by the rack of its
-- number, and makes it the next strip, each plate by the tray of its number.
use Rattle.std.proofs.lemmas.Grind.{common_steps}
use Rattle.std.proofs.Common.{arith, map, refl, sym, subst}
use Rattle.sheet_stream.specs.Reading.{CanReadRow}
use Rattle.sheet_stream.proofs.beside.write_and_read.Goals as goal

pub read_row-requires-clause-can : goal.read_row-requires-clause-can
read_row-requires-clause-can g c =
    subst (CanReadRow c.args.sheet.now.outline.now c.args.sheet.now.plan.now c.args.sheet.now.plates.now c.args.around.now.progress c.args.around.now.next (map g.T.Tray.state c.args.trays.now) c.args.strip.now) (sym c.write_waiting.ensures.strip) c.requires.can

pub write_waiting-requires-clause-waiting : goal.write_waiting-requires-clause-waiting
write_waiting-requires-clause-waiting g c = c.requires.waiting

pub returns-in-Ok-read_row-clause-does : goal.returns-in-Ok-read_row-clause-does
returns-in-Ok-read_row-clause-does g c = (c.in-Ok.ensures.written, c.in-Ok-read_row.ensures.read)

pub returns-in-Err-read_row-clause-does : goal.returns-in-Err-read_row-clause-does
returns-in-Err-read_row-clause-does g c = (c.in-Ok.ensures.written, c.in-Err-read_row.ensures.read)

pub returns-in-Err-clause-does : goal.returns-in-Err-clause-does
returns-in-Err-clause-does g c = (c.in-Err.ensures.written, refl)

pub returns-in-Ok-read_row-clause-bytes : goal.returns-in-Ok-read_row-clause-bytes
returns-in-Ok-read_row-clause-bytes g c = grind (arith, common_steps)

pub returns-in-Err-read_row-clause-bytes : goal.returns-in-Err-read_row-clause-bytes
returns-in-Err-read_row-clause-bytes g c = grind (arith, common_steps)

pub returns-in-Err-read_row-clause-line : goal.returns-in-Err-read_row-clause-line
returns-in-Err-read_row-clause-line g c = grind (arith, common_steps)

pub returns-in-Ok-read_row-clause-spelled : goal.returns-in-Ok-read_row-clause-spelled
returns-in-Ok-read_row-clause-spelled g c = grind (arith, common_steps)

pub returns-in-Err-read_row-clause-spelled : goal.returns-in-Err-read_row-clause-spelled
returns-in-Err-read_row-clause-spelled g c = grind (arith, common_steps)

pub returns-in-Ok-read_row-clause-line : goal.returns-in-Ok-read_row-clause-line
returns-in-Ok-read_row-clause-line g c = grind (arith, common_steps)
