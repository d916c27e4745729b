-- write_sheet: writes each plane, turned into a plate, into the file of its name, plane k by rack
-- k, and then the text into the report by the first rack.
use Rattle.std.proofs.lemmas.Result.{err_from_is_err_and}
use Rattle.std.proofs.lemmas.Grind.{common_steps}
use Rattle.std.proofs.Common.{◌≤◌, length, map, arith}
use Rattle.std.proofs.lemmas.List.{length-map}
use Rattle.sheet_files.proofs.RackLemmas.{plates_failed, report_failed, sheet_wrote}
use Rattle.sheet_files.proofs.writing.write_sheet.Goals as goal

pub returns-in-Ok : goal.returns-in-Ok
returns-in-Ok g c =
    let outputs = map g.S.AsStr.text c.args.names.now in
    let some : 1 ≤ length outputs = omega (arith, length-map c.args.names.now g.S.AsStr.text) in
    sheet_wrote outputs c.args.report.now c.args.planes.now c.args.text.now (map g.R.Rack.state c.args.racks.now) (map g.R.Rack.state c.write_plates.new.racks) (map g.R.Rack.state c.write_report.new.racks) some c.in_ok-write_plates.ensures c.in-Ok.ensures.here c.in-Ok.ensures.others

pub returns-in-Err : goal.returns-in-Err
returns-in-Err g c =
    let outputs = map g.S.AsStr.text c.args.names.now in
    let some : 1 ≤ length outputs = omega (arith, length-map c.args.names.now g.S.AsStr.text) in
    report_failed outputs c.args.report.now c.args.planes.now c.args.text.now (map g.R.Rack.state c.args.racks.now) (map g.R.Rack.state c.write_plates.new.racks) (map g.R.Rack.state c.write_report.new.racks) some c.in-Err.field-0 c.in_ok-write_plates.ensures c.in-Err.ensures.here c.in-Err.ensures.others

pub returns-in_err-write_plates : goal.returns-in_err-write_plates
returns-in_err-write_plates g c =
    let p = err_from_is_err_and c.from_residual.result c.from_residual.ensures.1 in
    rw (p.1, p.2) (plates_failed (map g.S.AsStr.text c.args.names.now) c.args.report.now c.args.planes.now c.args.text.now (map g.R.Rack.state c.args.racks.now) (map g.R.Rack.state c.write_plates.new.racks) c.in_err-write_plates.field-0.0 c.in_err-write_plates.ensures)

pub write_plates-requires-clause-fits : goal.write_plates-requires-clause-fits
write_plates-requires-clause-fits g c = grind (arith, common_steps)
