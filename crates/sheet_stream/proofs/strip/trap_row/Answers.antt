-- trap_row: traps the strip of these rows by as many workers as the plan has, in the room for its
-- windows, and adds what is counted in its core.
use Rattle.std.proofs.lemmas.Grind.{common_steps}
use Rattle.std.proofs.Common.{arith, ◌∙◌, List, map, sym, subst}
use Rattle.page_model.specs.Page.{width}
use Rattle.sheet_geometry.specs.Areas.{traps}
use Rattle.sheet_geometry.specs.declared.spans.Span.{Span}
use Rattle.sheet_geometry.specs.Plans.{AreRulersFor}
use Rattle.sheet_geometry.specs.Spans.{AreSpans}
use Rattle.sheet_stream.specs.declared.core_rows.StripCut.{StripCut}
use Rattle.sheet_stream.proofs.ReadyLemmas.{strip_rulers, strip_span}
use Rattle.sheet_engine.specs.Workspaces.{IsStripWorkspace}
use Rattle.sheet_engine.specs.Strips.{planes_of}
use Rattle.sheet_engine.specs.Growth.{AddsArea}
use Rattle.sheet_geometry.specs.Forms.{form_of}
use Rattle.sheet_stream.proofs.strip.trap_row.Goals as goal

pub trap_strip_in-requires-clause-rulers : goal.trap_strip_in-requires-clause-rulers
trap_strip_in-requires-clause-rulers g c lifetimes lives =
    subst (λ (k : StripCut). AreRulersFor traps c.args.strip.now k.across k.down) (sym c.cut_of-cut.ensures)
    (strip_rulers c.args.plan.now c.args.row.now c.args.strip.now c.args.windows.now c.args.counts.now c.requires)

pub trap_strip_in-requires-clause-windows : goal.trap_strip_in-requires-clause-windows
trap_strip_in-requires-clause-windows g c lifetimes lives =
    subst (λ (k : StripCut). IsStripWorkspace (form_of c.args.strip.now) k.row.wide c.args.windows.now) (sym c.cut_of-cut.ensures) c.requires.windows

pub returns : goal.returns
returns g c =
    let plan = c.args.plan.now in
    let row = c.args.row.now in
    let strip = c.args.strip.now in
    let cut = c.cut_of-cut.ensures in
    let did = c.trap_strip_in.ensures in
    let after = c.trap_strip_in.new.workspace in
    record {
      columns = did.columns;
      windows = subst (λ (k : StripCut). IsStripWorkspace (form_of strip) k.row.wide after) cut did.windows;
      cut = record {
        rulers = strip_rulers plan row strip c.args.windows.now c.args.counts.now c.requires;
        row = strip_span plan row strip c.args.windows.now c.args.counts.now c.requires;
        columns = subst (λ (cs : List Span). AreSpans plan.across 0 cs (width strip)) (sym did.columns) c.requires.columns;
        tiles = did.planes ∙ (λ i. map (planes_of strip (cut i).row) (sym did.columns i));
      };
      counted = subst (λ (k : StripCut). AddsArea strip 0 k.row.skip (width strip) k.row.core c.args.counts.now c.trap_strip_in.new.counts) cut did.counts;
    }

pub trap_strip_in-requires-clause-workspace : goal.trap_strip_in-requires-clause-workspace
trap_strip_in-requires-clause-workspace g c = grind (arith, common_steps)

pub trap_strip_in-requires-clause-small : goal.trap_strip_in-requires-clause-small
trap_strip_in-requires-clause-small g c = grind (arith, common_steps)
