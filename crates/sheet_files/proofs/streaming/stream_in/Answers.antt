-- What `stream_in` has to show.
use Rattle.std.proofs.lemmas.Grind.{common_steps}
use Rattle.std.proofs.Common.{arith, Err, map, sym, subst}
use Rattle.sheet_files.specs.declared.error.TrapsheetError.{TrapsheetError}
use Rattle.sheet_stream.specs.Second.{course_of}
use Rattle.sheet_engine.specs.declared.counts.SheetCounts.{SheetCounts}
use Rattle.sheet_files.specs.Reporting.{CountSome}
use Rattle.sheet_files.specs.Streaming.{EndsReport, StreamsOut}
use Rattle.sheet_files.proofs.StreamingLemmas.{some_counted, was_done, was_stopped}
use Rattle.sheet_files.proofs.streaming.stream_in.Goals as goal

pub write_counts-requires-clause-counts : goal.write_counts-requires-clause-counts
write_counts-requires-clause-counts g c =
    let course = course_of (map g.S.AsStr.text c.args.names.now.plates.inputs.now) (map g.S.AsStr.text c.args.names.now.plates.outputs.now) (map g.T.Tray.state c.args.trays.now) (map g.R.Rack.state c.args.racks.now) in
    subst (λ (n : SheetCounts). CountSome c.args.outline.now n) (sym c.counts_in-counts.ensures)
    (some_counted course c.args.outline.now c.args.plan.now.header c.stream_sheet-ended.new.workspace.counts (map g.T.Tray.state c.stream_sheet-ended.new.trays) (map g.R.Rack.state c.stream_sheet-ended.new.racks) c.requires.can.valid c.requires.can.blank c.in-Ok.ensures)

pub returns-in-Ok : goal.returns-in-Ok
returns-in-Ok g c =
    let course = course_of (map g.S.AsStr.text c.args.names.now.plates.inputs.now) (map g.S.AsStr.text c.args.names.now.plates.outputs.now) (map g.T.Tray.state c.args.trays.now) (map g.R.Rack.state c.args.racks.now) in
    was_done course c.args.names.now.report.now c.args.outline.now c.args.plan.now.header c.requires.header c.stream_sheet-ended.new.workspace.counts (map g.T.Tray.state c.stream_sheet-ended.new.trays) (map g.R.Rack.state c.stream_sheet-ended.new.racks) c.in-Ok.ensures
    (map g.R.Rack.state c.write_counts.new.racks) c.write_counts.result
    (subst (λ (n : SheetCounts). EndsReport c.args.names.now.report.now c.args.outline.now n (map g.R.Rack.state c.stream_sheet-ended.new.racks) (map g.R.Rack.state c.write_counts.new.racks) c.write_counts.result) c.counts_in-counts.ensures c.write_counts.ensures)

pub returns-in-Err : goal.returns-in-Err
returns-in-Err g c =
    let course = course_of (map g.S.AsStr.text c.args.names.now.plates.inputs.now) (map g.S.AsStr.text c.args.names.now.plates.outputs.now) (map g.T.Tray.state c.args.trays.now) (map g.R.Rack.state c.args.racks.now) in
    let trays = map g.T.Tray.state c.stream_sheet-ended.new.trays in
    let racks = map g.R.Rack.state c.stream_sheet-ended.new.racks in
    subst (λ (e : TrapsheetError). StreamsOut course c.args.names.now.report.now c.args.outline.now trays racks (Err e)) (sym c.stream_error.ensures)
    (was_stopped course c.args.names.now.report.now c.args.outline.now c.args.plan.now.header c.requires.header c.stream_sheet-ended.new.workspace.counts trays racks c.in-Err.error c.in-Err.ensures)

pub stream_sheet-ended-requires-clause-outputs : goal.stream_sheet-ended-requires-clause-outputs
stream_sheet-ended-requires-clause-outputs g c = grind (arith, common_steps)

pub stream_sheet-ended-requires-clause-trays : goal.stream_sheet-ended-requires-clause-trays
stream_sheet-ended-requires-clause-trays g c = grind (arith, common_steps)

pub stream_sheet-ended-requires-clause-inputs : goal.stream_sheet-ended-requires-clause-inputs
stream_sheet-ended-requires-clause-inputs g c = grind (arith, common_steps)

pub write_counts-requires-clause-some : goal.write_counts-requires-clause-some
write_counts-requires-clause-some g c = grind (arith, common_steps)

pub stream_sheet-ended-requires-clause-racks : goal.stream_sheet-ended-requires-clause-racks
stream_sheet-ended-requires-clause-racks g c = grind (arith, common_steps)

pub write_counts-requires-clause-inks : goal.write_counts-requires-clause-inks
write_counts-requires-clause-inks g c = grind (arith, common_steps)

pub write_counts-requires-clause-racks : goal.write_counts-requires-clause-racks
write_counts-requires-clause-racks g c = grind (arith, common_steps)

pub stream_sheet-ended-requires-clause-counts : goal.stream_sheet-ended-requires-clause-counts
stream_sheet-ended-requires-clause-counts g c = grind (arith, common_steps)
