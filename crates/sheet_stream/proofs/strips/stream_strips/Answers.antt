-- stream_strips: streams a sheet whose plates and files are begun.
use Rattle.std.proofs.lemmas.Grind.{common_steps}
use Rattle.std.proofs.Common.{arith, map}
use Rattle.sheet_stream.proofs.StreamLemmas.{finished}
use Rattle.sheet_stream.proofs.strips.stream_strips.Goals as goal

pub read_first-requires-clause-begun : goal.read_first-requires-clause-begun
read_first-requires-clause-begun g c =
    let started = c.requires.started in
    record { inputs = started.course.inputs; start = started.course.trays; read = started.starts.read }

pub stream_on-requires-clause-way : goal.stream_on-requires-clause-way
stream_on-requires-clause-way g c κs within =
    let started = c.requires.started in
    record {
      course = started.course;
      none = c.args.workspace.now.counts;
      empty = c.requires.counts;
      stands = c.in-Ok.ensures.begins started.course (map g.R.Rack.state c.args.racks.now) started.starts;
    }

pub returns-in-Ok : goal.returns-in-Ok
returns-in-Ok g c =
    let racks = map g.R.Rack.state c.args.racks.now in
    finished c.args.sheet.now.outline.now c.args.sheet.now.plan.now c.args.sheet.now.plates.now c.next_row-first.result c.args.workspace.now.counts (map g.T.Tray.state c.args.trays.now) (map g.T.Tray.state c.read_first.new.trays) (map g.T.Tray.state c.stream_on.new.trays) racks (map g.R.Rack.state c.stream_on.new.racks) c.read_first.new.workspace c.stream_on.new.workspace c.stream_on.result c.stream_on.ensures
    (λ course starts. c.in-Ok.ensures.begins course racks starts)

pub returns-in-Err : goal.returns-in-Err
returns-in-Err g c course starts = c.in-Err.ensures.begins course (map g.R.Rack.state c.args.racks.now) starts

pub stream_on-requires-clause-racks : goal.stream_on-requires-clause-racks
stream_on-requires-clause-racks g c = grind (arith, common_steps)

pub stream_on-requires-clause-trays : goal.stream_on-requires-clause-trays
stream_on-requires-clause-trays g c = grind (arith, common_steps)

pub stream_on-requires-clause-headers : goal.stream_on-requires-clause-headers
stream_on-requires-clause-headers g c = grind (arith, common_steps)

pub next_row-first-requires-clause-ruler : goal.next_row-first-requires-clause-ruler
next_row-first-requires-clause-ruler g c = grind (arith, common_steps)

pub read_first-requires-clause-row : goal.read_first-requires-clause-row
read_first-requires-clause-row g c = grind (arith, common_steps)

pub stream_on-requires-clause-first : goal.stream_on-requires-clause-first
stream_on-requires-clause-first g c = grind (arith, common_steps)
