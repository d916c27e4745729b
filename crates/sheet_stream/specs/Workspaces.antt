-- The memory that a sheet is streamed through.
use Rattle.std.specs.Prelude.{◌≡◌, ◌*◌, ◌≤◌, List, length, map}
use Rattle.page_model.specs.declared.parts.PageParts.{PageParts}
use Rattle.page_model.specs.Page.{plates, width}
use Rattle.sheet_stream.specs.declared.workspace.StreamWorkspace.{StreamWorkspace}
use Rattle.sheet_stream.specs.StoredStrips.{IsStripOf, blank_plane}
use Rattle.sheet_geometry.specs.declared.spans.Span.{Span}
use Rattle.sheet_geometry.specs.Spans.{AreSpans, even_wide}
use Rattle.sheet_stream.specs.declared.parts.StripPlan.{StripPlan}
use Rattle.sheet_engine.specs.declared.workspace.StripWorkspace.{StripWorkspace}
use Rattle.sheet_engine.specs.Workspaces.{IsStripWorkspace, columns_in}
use Rattle.sheet_geometry.specs.Forms.{form_of}
use Rattle.sheet_stream.specs.Strips.{IsSomeStrip}

-- Room for the windows of any strip of the sheet.
pub record CanHoldStrip (outline : PageParts) (plan : StripPlan) (workspace : StripWorkspace) : Type 0 where
  pub columns : AreSpans plan.across 0 (columns_in workspace) (width outline)
  pub windows : IsStripWorkspace (form_of outline) (even_wide plan.down) workspace

-- Room for any two strips of the sheet: whatever strips it was used for last.
pub record IsStreamWorkspace (outline : PageParts) (plan : StripPlan) (workspace : StreamWorkspace) : Type 0 where
  pub strip : IsSomeStrip outline plan workspace.strip
  pub ahead : IsSomeStrip outline plan workspace.ahead
  pub one : CanHoldStrip outline plan workspace.windows
  pub other : CanHoldStrip outline plan workspace.core.windows
  pub line : plates outline * width outline ≤ length workspace.core.line.items
  pub bytes : 2 ≤ length workspace.core.bytes.items
  pub pieces : 2 ≤ length workspace.pieces.items

-- the strip of these rows, of no ink
pub record IsBlankStrip (outline : PageParts) (row : Span) (strip : PageParts) : Type 0 where
  pub strip_is : IsStripOf outline row strip
  pub blank : strip.planes ≡ map (blank_plane row.wide) outline.planes

-- Room for the windows of these columns, in strips like this one.
pub record IsWorkspaceFor (strip : PageParts) (row : Span) (columns : List Span) (workspace : StripWorkspace)
    : Type 0 where
  pub columns_are : columns_in workspace ≡ columns
  pub windows : IsStripWorkspace (form_of strip) row.wide workspace
