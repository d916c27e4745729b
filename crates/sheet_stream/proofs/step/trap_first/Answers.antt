-- The first strip is trapped while the second one is read.
use Rattle.std.proofs.lemmas.Result.{err_from_is_err_and}
use Rattle.std.proofs.lemmas.Grind.{common_steps}
use Rattle.std.proofs.Common.{◌∙◌, length, map, ap, arith}
use Rattle.sheet_stream.specs.Going.{core_top, gone_on}
use Rattle.sheet_stream.proofs.AwaitLemmas.{awaits, still_workspace, waits}
use Rattle.sheet_stream.proofs.StepLemmas.{trappable}
use Rattle.sheet_stream.proofs.ReadLemmas.{new_cuttable, reading_stops}
use Rattle.sheet_stream.specs.declared.strip.CoreWorkspace.{CoreWorkspace}
use Rattle.sheet_stream.proofs.step.trap_first.Goals as goal

pub trap_and_read-requires-clause-trap : goal.trap_and_read-requires-clause-trap
trap_and_read-requires-clause-trap g c κs within =
    let outline = c.args.sheet.now.outline.now in
    let plan = c.args.sheet.now.plan.now in
    let begun = c.args.sheet.now.plates.now in
    let row = c.args.row.now in
    let old = c.args.workspace.now in
    let trays = map g.T.Tray.state c.args.trays.now in
    let ask = c.requires in
    let way = ask.way in
    trappable outline plan begun row ask.can ask.row old trays way.course way.none way.at way.empty old.windows ask.workspace.one

pub trap_and_read-requires-clause-can : goal.trap_and_read-requires-clause-can
trap_and_read-requires-clause-can g c κs within =
    let way = c.requires.way in
    record {
      can = c.requires.can;
      headers = c.requires.headers;
      next = c.requires.next;
      at_hand = c.requires.workspace.strip;
      workspace = c.requires.workspace.ahead;
      there = record { inputs = way.course.inputs; start = way.course.trays; holds = way.at.holds };
    }

pub change_places-requires : goal.change_places-requires
change_places-requires g c =
    let outline = c.args.sheet.now.outline.now in
    let plan = c.args.sheet.now.plan.now in
    let begun = c.args.sheet.now.plates.now in
    let row = c.args.row.now in
    let next = c.args.next.now in
    let old = c.args.workspace.now in
    let trays = map g.T.Tray.state c.args.trays.now in
    let ask = c.requires in
    let way = ask.way in
    let trays' = map g.T.Tray.state c.trap_and_read.new.trays in
    let mid = c.trap_and_read.new.workspace in
    new_cuttable outline plan begun (gone_on row) next ask.can ask.headers ask.next old.strip ask.workspace.strip trays trays' mid.ahead way.course.inputs way.course.trays way.at.holds c.in_ok-trap_and_read.ensures.read

pub returns-clause-workspace : goal.returns-clause-workspace
returns-clause-workspace g c =
    let ask = c.requires in
    let did = c.trap_and_read.ensures in
    let put = c.change_places.ensures in
    still_workspace c.args.sheet.now.outline.now c.args.sheet.now.plan.now c.args.sheet.now.plates.now c.args.row.now c.args.next.now ask.can ask.headers ask.row ask.next
    c.args.workspace.now c.trap_and_read.new.workspace c.change_places.new.workspace ask.workspace
    (map g.T.Tray.state c.args.trays.now) (map g.T.Tray.state c.trap_and_read.new.trays) ask.way.course ask.way.none ask.way.at did.trapped c.in_ok-trap_and_read.ensures.read
    put.strip (put.ahead ∙ did.strip) put.trapped
    (put.windows ∙ ap (λ (core : CoreWorkspace). core.windows) did.core) (put.line ∙ ap (λ (core : CoreWorkspace). length core.line.items) did.core) (put.bytes ∙ ap (λ (core : CoreWorkspace). length core.bytes.items) did.core) (put.pieces ∙ did.pieces)

pub returns-clause-waiting : goal.returns-clause-waiting
returns-clause-waiting g c =
    let ask = c.requires in
    let did = c.trap_and_read.ensures in
    let put = c.change_places.ensures in
    waits c.args.sheet.now.outline.now c.args.sheet.now.plan.now c.args.sheet.now.plates.now c.args.row.now c.args.next.now ask.can ask.headers ask.row ask.next
    c.args.workspace.now c.trap_and_read.new.workspace c.change_places.new.workspace ask.workspace
    (map g.T.Tray.state c.args.trays.now) (map g.T.Tray.state c.trap_and_read.new.trays) ask.way.course ask.way.none ask.way.at did.trapped c.in_ok-trap_and_read.ensures.read
    put.strip (put.ahead ∙ did.strip) put.trapped
    (put.line ∙ ap (λ (core : CoreWorkspace). length core.line.items) did.core) (put.bytes ∙ ap (λ (core : CoreWorkspace). length core.bytes.items) did.core)

pub returns-clause-goes : goal.returns-clause-goes
returns-clause-goes g c course none racks stands =
    let ask = c.requires in
    let did = c.trap_and_read.ensures in
    let put = c.change_places.ensures in
    awaits c.args.sheet.now.outline.now c.args.sheet.now.plan.now c.args.sheet.now.plates.now c.args.row.now c.args.next.now ask.can ask.headers ask.row ask.next
    c.args.workspace.now c.trap_and_read.new.workspace c.change_places.new.workspace ask.workspace
    (map g.T.Tray.state c.args.trays.now) (map g.T.Tray.state c.trap_and_read.new.trays) course none stands.at did.trapped c.in_ok-trap_and_read.ensures.read
    put.strip (put.ahead ∙ did.strip) put.trapped
    put.counts racks stands.written

pub returns-in_err-trap_and_read-clause-goes : goal.returns-in_err-trap_and_read-clause-goes
returns-in_err-trap_and_read-clause-goes g c =
    let p = err_from_is_err_and c.from_residual.result c.from_residual.ensures.1 in
    rw (p.1, p.2) (λ course none racks stands.
    let outline = c.args.sheet.now.outline.now in
    let plan = c.args.sheet.now.plan.now in
    let begun = c.args.sheet.now.plates.now in
    let row = c.args.row.now in
    let next = c.args.next.now in
    let old = c.args.workspace.now in
    let trays = map g.T.Tray.state c.args.trays.now in
    let ask = c.requires in
    let trays' = map g.T.Tray.state c.trap_and_read.new.trays in
    let mid = c.trap_and_read.new.workspace in
    record {
      stops = reading_stops outline plan begun (gone_on row) next ask.can ask.headers ask.next old.strip ask.workspace.strip trays trays' mid.ahead course.inputs course.trays stands.at.holds c.in_err-trap_and_read.field-0.0 c.in_err-trap_and_read.ensures.read;
      samples = stands.at.holds.samples;
      between = trays;
      read = stands.at.holds.read;
      rows = core_top row;
      few = (let a = ask.row.span.core in let i = ask.row.span.inside in let t = ask.can.rulers.tall in omega (arith, a, i, t));
      written = stands.written;
    }
    )

pub trap_and_read-requires-clause-row : goal.trap_and_read-requires-clause-row
trap_and_read-requires-clause-row g c = grind (arith, common_steps)
