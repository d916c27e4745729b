-- A strip of a sheet that may be trapped, and what comes of that.
use Rattle.std.specs.Prelude.{◌≡◌, ℕ, ◌*◌, ◌≤◌}
use Rattle.page_model.specs.declared.parts.PageParts.{PageParts}
use Rattle.page_model.specs.Page.{width}
use Rattle.sheet_geometry.specs.Areas.{traps}
use Rattle.sheet_geometry.specs.declared.spans.Span.{Span}
use Rattle.sheet_geometry.specs.Plans.{AreRulersFor, AreSmall}
use Rattle.sheet_geometry.specs.Sheets.{IsNearSheet, IsSheet}
use Rattle.sheet_geometry.specs.Spans.{AreSpans, IsSpan}
use Rattle.sheet_geometry.specs.Strips.{strip_parts}
use Rattle.sheet_stream.specs.declared.parts.StripPlan.{StripPlan}
use Rattle.sheet_stream.specs.Cores.{IsCutStrip}
use Rattle.sheet_stream.specs.OnSheet.{strip_cut}
use Rattle.sheet_engine.specs.declared.workspace.StripWorkspace.{StripWorkspace}
use Rattle.sheet_engine.specs.Workspaces.{IsStripWorkspace, columns_in}
use Rattle.sheet_engine.specs.Growth.{AddsArea, HasWorkspaces}
use Rattle.sheet_engine.specs.declared.counts.SheetCounts.{SheetCounts}
use Rattle.sheet_geometry.specs.Forms.{form_of}

-- the strip of these rows of some sheet, with a room for its windows, and for what is counted
pub record IsTrappable (plan : StripPlan) (row : Span) (strip : PageParts) (workspace : StripWorkspace)
    (counts : SheetCounts) : Type 0 where
  pub sheet : PageParts
  pub at : ℕ
  pub valid : IsSheet sheet
  pub near : IsNearSheet sheet
  pub rulers : AreRulersFor traps sheet plan.across plan.down
  pub small : AreSmall sheet plan.across plan.down
  pub span : IsSpan plan.down at row
  pub same : strip ≡ strip_parts sheet row
  pub some_workers : 1 ≤ plan.workers
  pub columns : AreSpans plan.across 0 (columns_in workspace) (width strip)
  pub windows : IsStripWorkspace (form_of strip) row.wide workspace
  pub counts_fit : HasWorkspaces strip (width strip * row.core) counts

-- The strip is trapped in the room, which is one for it still, and its core is counted.
pub record TrapsRow (plan : StripPlan) (row : Span) (strip : PageParts) (old new : StripWorkspace)
    (before after : SheetCounts) : Type 0 where
  pub columns : columns_in new ≡ columns_in old
  pub windows : IsStripWorkspace (form_of strip) row.wide new
  pub cut : IsCutStrip strip (strip_cut plan.across plan.down row) new
  pub counted : AddsArea strip 0 row.skip (width strip) row.core before after
