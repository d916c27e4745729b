-- What `write_begun` has to show.
use Rattle.std.proofs.lemmas.Result.{err_from_is_err_and}
use Rattle.std.proofs.Common.{map}
use Rattle.sheet_stream.proofs.SecondLemmas.{both_end, can_end, still_open, strips_error}
use Rattle.sheet_stream.proofs.sheet.write_begun.Goals as goal

pub end_sheet-requires-clause-read : goal.end_sheet-requires-clause-read
end_sheet-requires-clause-read g c =
    let started = c.requires.started in
    let done = c.in_ok-stream_strips.ensures started.course started.starts in
    let trays = map g.T.Tray.state c.stream_strips.new.trays in
    let racks = map g.R.Rack.state c.stream_strips.new.racks in
    can_end started.course c.args.sheet.now.outline.now c.args.sheet.now.plan.now c.args.sheet.now.plates.now c.requires.headers c.args.workspace.now.counts c.stream_strips.new.workspace.counts trays trays racks racks c.requires.counts done

pub end_sheet-requires-clause-open : goal.end_sheet-requires-clause-open
end_sheet-requires-clause-open g c =
    let started = c.requires.started in
    let done = c.in_ok-stream_strips.ensures started.course started.starts in
    let trays = map g.T.Tray.state c.stream_strips.new.trays in
    let racks = map g.R.Rack.state c.stream_strips.new.racks in
    still_open started.course c.args.sheet.now.outline.now c.args.sheet.now.plan.now c.args.sheet.now.plates.now c.requires.headers c.args.workspace.now.counts c.stream_strips.new.workspace.counts trays trays racks racks c.requires.counts done c.requires.can

pub returns : goal.returns
returns g c course starts =
    both_end course c.args.sheet.now.outline.now c.args.sheet.now.plan.now c.args.sheet.now.plates.now c.requires.headers c.args.workspace.now.counts c.stream_strips.new.workspace.counts (map g.T.Tray.state c.stream_strips.new.trays) (map g.T.Tray.state c.end_sheet.new.trays) (map g.R.Rack.state c.stream_strips.new.racks) (map g.R.Rack.state c.end_sheet.new.racks) c.requires.counts (c.in_ok-stream_strips.ensures course starts) c.end_sheet.result c.end_sheet.ensures

pub returns-in_err-stream_strips : goal.returns-in_err-stream_strips
returns-in_err-stream_strips g c course starts =
    let p = err_from_is_err_and c.from_residual.result c.from_residual.ensures.1 in
    rw (p.1, p.2) (strips_error course c.args.sheet.now.outline.now c.args.sheet.now.plan.now c.args.sheet.now.plates.now c.requires.headers c.stream_strips.new.workspace.counts (map g.T.Tray.state c.stream_strips.new.trays) (map g.R.Rack.state c.stream_strips.new.racks) c.in_err-stream_strips.field-0.0 (c.in_err-stream_strips.ensures course starts))
