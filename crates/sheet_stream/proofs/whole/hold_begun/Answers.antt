-- What `hold_begun` has to show.
use Rattle.std.proofs.lemmas.Result.{err_from_is_err_and}
use Rattle.std.proofs.lemmas.Grind.{common_steps}
use Rattle.std.proofs.Common.{arith, map}
use Rattle.sheet_stream.proofs.StoredLemmas.{all_to_read, stored_end, reading_stopped, rows_can_end}
use Rattle.sheet_stream.proofs.whole.hold_begun.Goals as goal

pub read_strip-requires-clause-read : goal.read_strip-requires-clause-read
read_strip-requires-clause-read g c =
    let there = c.requires.read in
    let trays = map g.T.Tray.state c.args.trays.now in
    all_to_read there.inputs c.args.outline.now c.args.plates.now c.requires.headers there.start trays trays c.args.sheet.now c.args.sheet.now c.requires.workspace there.read

pub returns : goal.returns
returns g c inputs start read =
    stored_end inputs c.args.outline.now c.args.plates.now c.requires.headers start (map g.T.Tray.state c.args.trays.now) (map g.T.Tray.state c.read_strip.new.trays) c.args.sheet.now c.read_strip.new.strip c.requires.workspace read c.in_ok-read_strip.ensures (map g.T.Tray.state c.end_plates.new.trays) c.end_plates.result c.end_plates.ensures

pub returns-in_err-read_strip : goal.returns-in_err-read_strip
returns-in_err-read_strip g c inputs start read =
    let p = err_from_is_err_and c.from_residual.result c.from_residual.ensures.1 in
    rw (p.1, p.2) (reading_stopped inputs c.args.outline.now c.args.plates.now c.requires.headers start (map g.T.Tray.state c.args.trays.now) (map g.T.Tray.state c.read_strip.new.trays) c.args.sheet.now c.read_strip.new.strip c.requires.workspace read c.in_err-read_strip.field-0.0 c.in_err-read_strip.ensures)

pub end_plates-requires-clause-begun : goal.end_plates-requires-clause-begun
end_plates-requires-clause-begun g c k l =
    let there = c.requires.read in
    (rows_can_end there.inputs c.args.outline.now c.args.plates.now c.requires.headers there.start (map g.T.Tray.state c.args.trays.now) (map g.T.Tray.state c.read_strip.new.trays) c.args.sheet.now c.read_strip.new.strip c.requires.workspace there.read c.in_ok-read_strip.ensures k l).is_begun

pub end_plates-requires-clause-counts : goal.end_plates-requires-clause-counts
end_plates-requires-clause-counts g c = grind (arith, common_steps)

pub end_plates-requires-clause-headers : goal.end_plates-requires-clause-headers
end_plates-requires-clause-headers g c = grind (arith, common_steps)
