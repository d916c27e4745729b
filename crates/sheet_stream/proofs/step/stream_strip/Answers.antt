-- A strip is trapped while the one before it is written and the next one is read.
use Rattle.std.proofs.lemmas.Result.{err_from_is_err_and}
use Rattle.std.proofs.lemmas.Grind.{common_steps}
use Rattle.std.proofs.Common.{arith, ◌∙◌, map, sym}
use Rattle.sheet_stream.specs.Going.{gone_on}
use Rattle.sheet_stream.proofs.AwaitLemmas.{awaits, still_workspace, waits}
use Rattle.sheet_stream.proofs.StepLemmas.{stopped_beside, trappable}
use Rattle.sheet_stream.proofs.ReadLemmas.{new_cuttable}
use Rattle.sheet_stream.proofs.step.stream_strip.Goals as goal

pub trap_beside-requires-clause-trap : goal.trap_beside-requires-clause-trap
trap_beside-requires-clause-trap g c κs within =
    let outline = c.args.sheet.now.outline.now in
    let plan = c.args.sheet.now.plan.now in
    let begun = c.args.sheet.now.plates.now in
    let row = c.args.row.now in
    let old = c.args.workspace.now in
    let trays = map g.T.Tray.state c.args.trays.now in
    let ask = c.requires in
    let way = ask.way in
    trappable outline plan begun row ask.can ask.row old trays way.course way.none way.awaits.at way.empty old.windows ask.workspace.one

pub trap_beside-requires-clause-opened : goal.trap_beside-requires-clause-opened
trap_beside-requires-clause-opened g c κs within = c.requires.way.awaits.opened

pub trap_beside-requires-clause-count : goal.trap_beside-requires-clause-count
trap_beside-requires-clause-count g c κs within = c.requires.workspace.ahead.is_strip.planes.count ∙ sym c.requires.headers.count

pub trap_beside-requires-clause-can : goal.trap_beside-requires-clause-can
trap_beside-requires-clause-can g c κs within =
    let way = c.requires.way in
    record {
      can = c.requires.can;
      headers = c.requires.headers;
      next = c.requires.next;
      at_hand = c.requires.workspace.strip;
      workspace = c.requires.workspace.ahead;
      there = record { inputs = way.course.inputs; start = way.course.trays; holds = way.awaits.at.holds };
    }

pub change_places-requires : goal.change_places-requires
change_places-requires g c =
    let outline = c.args.sheet.now.outline.now in
    let plan = c.args.sheet.now.plan.now in
    let begun = c.args.sheet.now.plates.now in
    let row = c.args.row.now in
    let next = c.args.next.now in
    let old = c.args.workspace.now in
    let trays = map g.T.Tray.state c.args.trays.now in
    let ask = c.requires in
    let way = ask.way in
    let trays' = map g.T.Tray.state c.trap_beside.new.trays in
    let mid = c.trap_beside.new.workspace in
    new_cuttable outline plan begun (gone_on row) next ask.can ask.headers ask.next old.strip ask.workspace.strip trays trays' mid.ahead way.course.inputs way.course.trays way.awaits.at.holds c.in_ok-trap_beside.ensures.does.1

pub returns-clause-workspace : goal.returns-clause-workspace
returns-clause-workspace g c =
    let ask = c.requires in
    let did = c.trap_beside.ensures in
    let put = c.change_places.ensures in
    still_workspace c.args.sheet.now.outline.now c.args.sheet.now.plan.now c.args.sheet.now.plates.now c.args.row.now c.args.next.now ask.can ask.headers ask.row ask.next
    c.args.workspace.now c.trap_beside.new.workspace c.change_places.new.workspace ask.workspace
    (map g.T.Tray.state c.args.trays.now) (map g.T.Tray.state c.trap_beside.new.trays) ask.way.course ask.way.none ask.way.awaits.at did.trapped c.in_ok-trap_beside.ensures.does.1
    put.strip (put.ahead ∙ did.strip) put.trapped
    (put.windows ∙ did.windows) (put.line ∙ did.line) (put.bytes ∙ did.bytes) (put.pieces ∙ did.pieces)

pub returns-clause-waiting : goal.returns-clause-waiting
returns-clause-waiting g c =
    let ask = c.requires in
    let did = c.trap_beside.ensures in
    let put = c.change_places.ensures in
    waits c.args.sheet.now.outline.now c.args.sheet.now.plan.now c.args.sheet.now.plates.now c.args.row.now c.args.next.now ask.can ask.headers ask.row ask.next
    c.args.workspace.now c.trap_beside.new.workspace c.change_places.new.workspace ask.workspace
    (map g.T.Tray.state c.args.trays.now) (map g.T.Tray.state c.trap_beside.new.trays) ask.way.course ask.way.none ask.way.awaits.at did.trapped c.in_ok-trap_beside.ensures.does.1
    put.strip (put.ahead ∙ did.strip) put.trapped
    (put.line ∙ did.line) (put.bytes ∙ did.bytes)

pub returns-clause-goes : goal.returns-clause-goes
returns-clause-goes g c course none stands =
    let ask = c.requires in
    let did = c.trap_beside.ensures in
    let put = c.change_places.ensures in
    let racks = map g.R.Rack.state c.trap_beside.new.racks in
    awaits c.args.sheet.now.outline.now c.args.sheet.now.plan.now c.args.sheet.now.plates.now c.args.row.now c.args.next.now ask.can ask.headers ask.row ask.next
    c.args.workspace.now c.trap_beside.new.workspace c.change_places.new.workspace ask.workspace
    (map g.T.Tray.state c.args.trays.now) (map g.T.Tray.state c.trap_beside.new.trays) course none stands.at did.trapped c.in_ok-trap_beside.ensures.does.1
    put.strip (put.ahead ∙ did.strip) put.trapped
    put.counts racks (stands.written racks c.in_ok-trap_beside.ensures.does.0)

pub returns-in_err-trap_beside-clause-goes : goal.returns-in_err-trap_beside-clause-goes
returns-in_err-trap_beside-clause-goes g c =
    let p = err_from_is_err_and c.from_residual.result c.from_residual.ensures.1 in
    rw (p.1, p.2) (λ course none stands.
    let outline = c.args.sheet.now.outline.now in
    let plan = c.args.sheet.now.plan.now in
    let begun = c.args.sheet.now.plates.now in
    let row = c.args.row.now in
    let next = c.args.next.now in
    let old = c.args.workspace.now in
    let trays = map g.T.Tray.state c.args.trays.now in
    let ask = c.requires in
    let trays' = map g.T.Tray.state c.trap_beside.new.trays in
    let mid = c.trap_beside.new.workspace in
    let last = c.args.last.now in
    let racks = map g.R.Rack.state c.args.racks.now in
    let racks' = map g.R.Rack.state c.trap_beside.new.racks in
    stopped_beside outline plan begun last row next ask.can ask.headers ask.row ask.next old ask.workspace.strip mid.ahead trays trays' racks racks' course none stands c.in_err-trap_beside.field-0.0 c.in_err-trap_beside.ensures.does
    )

pub trap_beside-requires-clause-row : goal.trap_beside-requires-clause-row
trap_beside-requires-clause-row g c = grind (arith, common_steps)
