-- What `write_sheet` has to show.
use Rattle.std.proofs.Common.{◌≡◌, length, map, ◌∙◌}
use Rattle.std.proofs.lemmas.List.{length-map}
use Rattle.page_model.specs.Page.{plates}
use Rattle.sheet_stream.specs.Second.{course_of}
use Rattle.sheet_stream.proofs.SecondLemmas.{files_begun, files_error}
use Rattle.sheet_stream.proofs.sheet.write_sheet.Goals as goal

pub write_begun-requires-clause-started : goal.write_begun-requires-clause-started
write_begun-requires-clause-started g c κs within =
    let read = c.requires.read in
    let outputs = map g.S.AsStr.text c.args.outputs.now in
    let racks = map g.R.Rack.state c.args.racks.now in
    let many : length outputs ≡ plates c.args.sheet.now.outline.now = length-map c.args.outputs.now g.S.AsStr.text ∙ c.requires.outputs ∙ c.requires.headers.count in
    record {
      course = course_of read.inputs outputs read.start racks;
      starts = files_begun (course_of read.inputs outputs read.start racks) c.args.sheet.now.outline.now c.args.sheet.now.plan.now c.args.sheet.now.plates.now c.requires.headers (map g.T.Tray.state c.args.trays.now) many read.read (map g.R.Rack.state c.begin_images.new.racks) c.in-Ok.ensures;
    }

pub returns-in-Ok : goal.returns-in-Ok
returns-in-Ok g c inputs start read =
    let outputs = map g.S.AsStr.text c.args.outputs.now in
    let racks = map g.R.Rack.state c.args.racks.now in
    let many : length outputs ≡ plates c.args.sheet.now.outline.now = length-map c.args.outputs.now g.S.AsStr.text ∙ c.requires.outputs ∙ c.requires.headers.count in
    c.write_begun.ensures (course_of inputs outputs start racks)
    (files_begun (course_of inputs outputs start racks) c.args.sheet.now.outline.now c.args.sheet.now.plan.now c.args.sheet.now.plates.now c.requires.headers (map g.T.Tray.state c.args.trays.now) many read (map g.R.Rack.state c.begin_images.new.racks) c.in-Ok.ensures)

pub returns-in-Err : goal.returns-in-Err
returns-in-Err g c inputs start read =
    let outputs = map g.S.AsStr.text c.args.outputs.now in
    let racks = map g.R.Rack.state c.args.racks.now in
    let many : length outputs ≡ plates c.args.sheet.now.outline.now = length-map c.args.outputs.now g.S.AsStr.text ∙ c.requires.outputs ∙ c.requires.headers.count in
    files_error (course_of inputs outputs start racks) c.args.sheet.now.outline.now c.args.sheet.now.plan.now c.args.sheet.now.plates.now c.requires.headers (map g.T.Tray.state c.args.trays.now) many read c.args.workspace.now.counts (map g.R.Rack.state c.begin_images.new.racks) c.in-Err.common_error c.in-Err.ensures
