-- trap_row: traps a strip, and adds its new tints after those of the strips above it.
use Rattle.std.proofs.lemmas.Grind.{common_steps}
use Rattle.std.proofs.Common.{arith, List, ap, subst, sym, ◌∙◌}
use Rattle.std.specs.Prelude.{length, map}
use Rattle.page_model.specs.Page.{width}
use Rattle.sheet_geometry.specs.declared.spans.Span.{Span}
use Rattle.sheet_geometry.specs.Spans.{AreSpans}
use Rattle.sheet_engine.specs.Strips.{planes_of}
use Rattle.sheet_engine.specs.Whole.{HasStrip}
use Rattle.sheet_files.proofs.whole.trap_row.Goals as goal

pub trap_strip_in-requires-clause-columns : goal.trap_strip_in-requires-clause-columns
trap_strip_in-requires-clause-columns g c = λ κs alive.
    subst (λ (cs : List Span). AreSpans c.args.cut.now.across.now 0 cs (width c.args.sheet.now)) (sym c.in_ok-workspace.ensures.columns) c.requires.columns

pub trap_strip_in-requires-clause-workspace : goal.trap_strip_in-requires-clause-workspace
trap_strip_in-requires-clause-workspace g c = λ κs alive. c.requires.workspace

pub add_strip-requires-clause-columns : goal.add_strip-requires-clause-columns
add_strip-requires-clause-columns g c =
    subst (λ (cs : List Span). AreSpans c.args.cut.now.across.now 0 cs (width c.args.sheet.now)) (sym (c.trap_strip_in.ensures.columns ∙ c.in_ok-workspace.ensures.columns)) c.requires.columns

pub add_strip-requires-clause-tiles : goal.add_strip-requires-clause-tiles
add_strip-requires-clause-tiles g c = c.trap_strip_in.ensures.planes ∙ ap (map (planes_of c.args.sheet.now c.args.row.now)) (sym c.trap_strip_in.ensures.columns)

pub returns-clause-kept : goal.returns-clause-kept
returns-clause-kept g c = record { columns_are = c.trap_strip_in.ensures.columns ∙ c.in_ok-workspace.ensures.columns; workspace = c.trap_strip_in.ensures.windows }

pub returns-clause-tints : goal.returns-clause-tints
returns-clause-tints g c =
    subst (λ (cs : List Span). HasStrip c.args.sheet.now cs c.args.row.now c.args.work.now.tints c.add_strip.new.out) (c.trap_strip_in.ensures.columns ∙ c.in_ok-workspace.ensures.columns) c.in_ok-add_strip.ensures.out

pub returns-clause-counts : goal.returns-clause-counts
returns-clause-counts g c = c.trap_strip_in.ensures.counts

pub trap_strip_in-requires-clause-windows : goal.trap_strip_in-requires-clause-windows
trap_strip_in-requires-clause-windows g c = λ κs alive. c.in_ok-workspace.ensures.workspace

pub add_strip-requires-clause-row : goal.add_strip-requires-clause-row
add_strip-requires-clause-row g c = c.requires.some_row

pub add_strip-requires-clause-line : goal.add_strip-requires-clause-line
add_strip-requires-clause-line g c = ap length c.as_mut_slice-line.ensures.value ∙ c.requires.line

pub add_strip-requires-clause-plates : goal.add_strip-requires-clause-plates
add_strip-requires-clause-plates g c = c.requires.plates

pub fit_workspace-requires-clause-row : goal.fit_workspace-requires-clause-row
fit_workspace-requires-clause-row g c = grind (arith, common_steps)

pub returns-clause-line : goal.returns-clause-line
returns-clause-line g c = grind (arith, common_steps)

pub trap_strip_in-requires-clause-row : goal.trap_strip_in-requires-clause-row
trap_strip_in-requires-clause-row g c = grind (arith, common_steps)
