-- read_first: reads the rows of the first strip, which is at hand then, each plate by the tray of
-- its number.
use Rattle.std.proofs.lemmas.Result.{err_from_is_err_and}
use Rattle.std.proofs.Common.{Ok, Err, map, sym, subst, arith}
use Rattle.page_model.specs.declared.parts.PageParts.{PageParts}
use Rattle.sheet_stream.specs.Going.{not_begun}
use Rattle.sheet_stream.specs.Reading.{ReadsRow}
use Rattle.sheet_stream.specs.Strips.{IsSomeStrip}
use Rattle.sheet_stream.specs.Workspaces.{CanHoldStrip}
use Rattle.sheet_stream.proofs.ReadLemmas.{new_cuttable, new_some}
use Rattle.sheet_stream.proofs.StreamLemmas.{begins_badly, begins_well, holds_none}
use Rattle.sheet_geometry.specs.Spans.{even_wide}
use Rattle.sheet_stream.proofs.step.read_first.Goals as goal

pub read_row-requires-clause-can : goal.read_row-requires-clause-can
read_row-requires-clause-can g c =
    let outline = c.args.sheet.now.outline.now in
    let plan = c.args.sheet.now.plan.now in
    let begun = c.requires.begun in
    record {
      can = c.requires.can;
      headers = c.requires.headers;
      next = c.requires.row;
      at_hand = subst (IsSomeStrip outline plan) (sym c.parts-parts.ensures.value) c.requires.workspace.strip;
      workspace = c.requires.workspace.ahead;
      there = record {
        inputs = begun.inputs;
        start = begun.start;
        holds = holds_none begun.inputs outline c.args.sheet.now.plates.now (even_wide plan.down) begun.start (map g.T.Tray.state c.args.trays.now) c.parts-parts.result.now begun.read;
      };
    }

pub change_places-requires : goal.change_places-requires
change_places-requires g c =
    let outline = c.args.sheet.now.outline.now in
    let plan = c.args.sheet.now.plan.now in
    let begun = c.requires.begun in
    let trays = map g.T.Tray.state c.args.trays.now in
    let trays' = map g.T.Tray.state c.read_row.new.trays in
    let strip = c.args.workspace.now.strip in
    new_cuttable outline plan c.args.sheet.now.plates.now not_begun c.args.row.now c.requires.can c.requires.headers c.requires.row strip c.requires.workspace.strip trays trays' c.read_row.new.ahead begun.inputs begun.start
    (holds_none begun.inputs outline c.args.sheet.now.plates.now (even_wide plan.down) begun.start trays strip begun.read)
    (subst (λ (s : PageParts). ReadsRow outline c.args.sheet.now.plates.now not_begun c.args.row.now s c.read_row.new.ahead trays trays' (Ok tt)) c.parts-parts.ensures.value c.in_ok-read_row.ensures.read)

pub returns-clause-workspace : goal.returns-clause-workspace
returns-clause-workspace g c =
    let outline = c.args.sheet.now.outline.now in
    let plan = c.args.sheet.now.plan.now in
    let begun = c.requires.begun in
    let trays = map g.T.Tray.state c.args.trays.now in
    let trays' = map g.T.Tray.state c.read_row.new.trays in
    let strip = c.args.workspace.now.strip in
    let workspace = c.requires.workspace in
    let put = c.change_places.ensures in
    record {
      strip = subst (IsSomeStrip outline plan) (sym put.strip)
          (new_some outline plan c.args.sheet.now.plates.now not_begun c.args.row.now c.requires.can c.requires.headers c.requires.row strip workspace.strip trays trays' c.read_row.new.ahead begun.inputs begun.start
          (holds_none begun.inputs outline c.args.sheet.now.plates.now (even_wide plan.down) begun.start trays strip begun.read)
          (subst (λ (s : PageParts). ReadsRow outline c.args.sheet.now.plates.now not_begun c.args.row.now s c.read_row.new.ahead trays trays' (Ok tt)) c.parts-parts.ensures.value c.in_ok-read_row.ensures.read));
      ahead = subst (IsSomeStrip outline plan) (sym put.ahead) workspace.strip;
      one = subst (CanHoldStrip outline plan) (sym put.windows) workspace.other;
      other = subst (CanHoldStrip outline plan) (sym put.trapped) workspace.one;
      line = (let l = workspace.line in let e = put.line in omega (arith, l, e));
      bytes = (let b = workspace.bytes in let e = put.bytes in omega (arith, b, e));
      pieces = (let b = workspace.pieces in let e = put.pieces in let a = c.read_row.ensures.bytes in omega (arith, b, e, a));
    }

pub returns-clause-begins : goal.returns-clause-begins
returns-clause-begins g c =
    let outline = c.args.sheet.now.outline.now in
    let trays = map g.T.Tray.state c.args.trays.now in
    let trays' = map g.T.Tray.state c.read_row.new.trays in
    begins_well outline c.args.sheet.now.plan.now c.args.sheet.now.plates.now c.args.row.now c.requires.can c.requires.headers c.requires.row c.args.workspace.now c.requires.workspace.strip trays trays' c.read_row.new.ahead c.change_places.new.workspace
    (subst (λ (s : PageParts). ReadsRow outline c.args.sheet.now.plates.now not_begun c.args.row.now s c.read_row.new.ahead trays trays' (Ok tt)) c.parts-parts.ensures.value c.in_ok-read_row.ensures.read)
    c.change_places.ensures.strip c.change_places.ensures.counts

pub returns-in_err-read_row-clause-begins : goal.returns-in_err-read_row-clause-begins
returns-in_err-read_row-clause-begins g c =
    let p = err_from_is_err_and c.from_residual.result c.from_residual.ensures.1 in
    rw (p.1, p.2) (
    let outline = c.args.sheet.now.outline.now in
    let trays = map g.T.Tray.state c.args.trays.now in
    let trays' = map g.T.Tray.state c.read_row.new.trays in
    begins_badly outline c.args.sheet.now.plan.now c.args.sheet.now.plates.now c.args.row.now c.requires.can c.requires.headers c.requires.row c.args.workspace.now c.requires.workspace.strip trays trays' c.read_row.new.ahead c.args.workspace.now c.in_err-read_row.field-0.0
    (subst (λ (s : PageParts). ReadsRow outline c.args.sheet.now.plates.now not_begun c.args.row.now s c.read_row.new.ahead trays trays' (Err c.in_err-read_row.field-0.0)) c.parts-parts.ensures.value c.in_err-read_row.ensures.read)
    )
