-- read_row: turns the next strip to these rows, copies those of them that the strip at hand has too
-- out of it, and reads the others, each plate by the tray of its number.
use Rattle.std.proofs.Common.{◌≡◌, ◌*◌, List, map, get_or, sym, ap, ◌∙◌, subst, arith}
use Rattle.page_model.specs.declared.parts.Plane.{Plane}
use Rattle.page_model.specs.Page.{width}
use Rattle.std.proofs.lemmas.Grind.{common_steps}
use Rattle.sheet_stream.proofs.ReadLemmas.{alike, common_within, read_there}
use Rattle.sheet_stream.specs.Holding.{AreAlike}
use Rattle.sheet_stream.proofs.HoldLemmas.{first_plane}
use Rattle.sheet_stream.proofs.TurnLemmas.{have_form}
use Rattle.sheet_stream.proofs.ahead.read_row.Goals as goal

pub turn_to-requires-clause-form : goal.turn_to-requires-clause-form
turn_to-requires-clause-form g c = have_form c.args.sheet.now.outline.now c.requires.can.workspace.last c.args.ahead.now c.requires.can.workspace.is_strip

pub read_ahead-requires-clause-alike : goal.read_ahead-requires-clause-alike
read_ahead-requires-clause-alike g c =
    let may = c.requires.can in
    subst (λ (planes : List Plane). AreAlike c.args.strip.now.planes planes) (sym c.turn_to.ensures.planes)
    (alike c.args.sheet.now.outline.now c.args.sheet.now.plan.now c.args.sheet.now.plates.now c.args.progress.now c.args.row.now may.can may.headers may.next c.args.strip.now may.at_hand c.args.ahead.now may.workspace)

pub read_ahead-requires-clause-common : goal.read_ahead-requires-clause-common
read_ahead-requires-clause-common g c =
    let outline = c.args.sheet.now.outline.now in
    let may = c.requires.can in
    let plane = c.index-as_slice-0.result in
    let first = first_plane outline c.as_slice.result.now plane may.can.valid.parts.some_plates c.as_slice.ensures c.index-as_slice-0.is in
    let wide : (get_or c.as_slice.result.now 0 plane).width ≡ width outline = ap (λ (p : Plane). p.width) (sym c.index-as_slice-0.is ∙ first) in
    common_within outline c.args.sheet.now.plan.now c.args.sheet.now.plates.now c.args.progress.now c.args.row.now may.can may.headers may.next c.args.strip.now may.at_hand (map g.T.Tray.state c.args.trays.now) may.there.inputs may.there.start may.there.holds (get_or c.as_slice.result.now 0 plane).width wide

pub read_ahead-requires-clause-read : goal.read_ahead-requires-clause-read
read_ahead-requires-clause-read g c =
    let outline = c.args.sheet.now.outline.now in
    let may = c.requires.can in
    let plane = c.index-as_slice-0.result in
    let first = first_plane outline c.as_slice.result.now plane may.can.valid.parts.some_plates c.as_slice.ensures c.index-as_slice-0.is in
    let wide : (get_or c.as_slice.result.now 0 plane).width ≡ width outline = ap (λ (p : Plane). p.width) (sym c.index-as_slice-0.is ∙ first) in
    read_there outline c.args.sheet.now.plan.now c.args.sheet.now.plates.now c.args.progress.now c.args.row.now may.can may.headers may.next c.args.strip.now may.at_hand (map g.T.Tray.state c.args.trays.now) may.there.inputs may.there.start may.there.holds (get_or c.as_slice.result.now 0 plane).width wide
    (c.from.result * c.from-2.result) (λ i. c.from.ensures i * c.from-2.ensures i)

pub returns-clause-bytes : goal.returns-clause-bytes
returns-clause-bytes g c = grind (arith, common_steps)

pub read_ahead-requires-clause-workspace : goal.read_ahead-requires-clause-workspace
read_ahead-requires-clause-workspace g c = grind (arith, common_steps)

pub bounds-as_slice-0-2 : goal.bounds-as_slice-0-2
bounds-as_slice-0-2 g c = grind (arith, common_steps)

pub read_ahead-requires-clause-planes : goal.read_ahead-requires-clause-planes
read_ahead-requires-clause-planes g c = grind (arith, common_steps)

pub read_ahead-requires-clause-trays : goal.read_ahead-requires-clause-trays
read_ahead-requires-clause-trays g c = grind (arith, common_steps)

pub bounds-as_slice-0 : goal.bounds-as_slice-0
bounds-as_slice-0 g c = grind (arith, common_steps)
