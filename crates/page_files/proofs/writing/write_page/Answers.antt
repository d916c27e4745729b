-- write_page: writes each plane as a plate into the file of its name, and then the text into the
-- report, as this project orders them.
use Rattle.std.proofs.Common.{map, ◌∙◌, sym}
use Rattle.std.proofs.lemmas.List.{length-map}
use Rattle.page_files.proofs.Steps.{page_written, report_broken, plates_broken}
use Rattle.page_files.proofs.writing.write_page.Goals as goal

pub returns-in-Ok-write_file : goal.returns-in-Ok-write_file
returns-in-Ok-write_file g c =
    page_written (map g.S.AsStr.text c.args.names.now) c.args.planes c.args.report.now c.args.text.now (g.R.Rack.state c.args.rack.now) (g.R.Rack.state c.write_plates.new.rack) (g.R.Rack.state c.write_file.new.rack) _ _ _
    (c.requires.count ∙ sym (length-map c.args.names.now g.S.AsStr.text)) c.in-Ok.ensures c.in-Ok-write_file.ensures

pub returns-in-Err-write_file : goal.returns-in-Err-write_file
returns-in-Err-write_file g c =
    report_broken (map g.S.AsStr.text c.args.names.now) c.args.planes c.args.report.now c.args.text.now (g.R.Rack.state c.args.rack.now) (g.R.Rack.state c.write_plates.new.rack) (g.R.Rack.state c.write_file.new.rack) _ _
    (c.requires.count ∙ sym (length-map c.args.names.now g.S.AsStr.text)) c.in-Ok.ensures c.in-Err-write_file.ensures

pub returns-in-Err : goal.returns-in-Err
returns-in-Err g c =
    plates_broken (map g.S.AsStr.text c.args.names.now) c.args.planes c.args.report.now c.args.text.now (g.R.Rack.state c.args.rack.now) (g.R.Rack.state c.write_plates.new.rack) c.in-Err.error
    (c.requires.count ∙ sym (length-map c.args.names.now g.S.AsStr.text)) c.in-Err.ensures
