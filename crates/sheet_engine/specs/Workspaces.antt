-- The room that strips of one form are trapped in, window by window.
use Rattle.std.specs.Prelude.{◌≡◌, ℕ, ◌+◌, List, length, map}
use Rattle.std.specs.List.{All}
use Rattle.std.specs.Option.{IsSomeAnd}
use Rattle.page_model.specs.declared.parts.PageParts.{PageParts}
use Rattle.page_model.specs.declared.parts.Plane.{Plane}
use Rattle.page_model.specs.Page.{height, width}
use Rattle.page_tally.specs.Shapes.{Shape}
use Rattle.sheet_geometry.specs.declared.spans.Ruler.{Ruler}
use Rattle.sheet_geometry.specs.declared.spans.Span.{Span}
use Rattle.strip_engine.specs.Workspaces.{IsWorkspaceFor}
use Rattle.sheet_engine.specs.declared.workspace.StripWorkspace.{StripWorkspace}
use Rattle.sheet_engine.specs.declared.workspace.WindowWorkspace.{WindowWorkspace}
use Rattle.sheet_engine.specs.Strips.{IsSomeSpan, planes_of}
use Rattle.sheet_engine.specs.Works.{HasArea}
use Rattle.sheet_engine.specs.declared.counts.SheetCounts.{SheetCounts}
use Rattle.sheet_geometry.specs.Forms.{Form, form_of}

-- the shape of a window of these columns and `tall` rows
abbrev pub window_shape : Form → ℕ → Span → Shape
window_shape form tall column =
    record { wide = column.wide; tall = tall; deep = form.deep; zones = length form.zones }

-- a page of that form, with those sides
pub record HasForm (form : Form) (tall : ℕ) (column : Span) (page : PageParts) : Type 0 where
  pub form_is : form_of page ≡ form
  pub wide : width page ≡ column.wide
  pub height_is : height page ≡ tall

-- a count for each zone and plate of a sheet of that form
pub record HasCounts (form : Form) (counts : SheetCounts) : Type 0 where
  pub zone_samples : length counts.zone_samples.items ≡ length form.zones
  pub zone_changed : length counts.zone_changed.items ≡ length form.zones
  pub plate_changed : length counts.plate_changed.items ≡ form.deep

-- the buffers for a window of `tall` rows, whatever it showed last
pub record IsWindowWorkspace (form : Form) (tall : ℕ) (window : WindowWorkspace) : Type 0 where
  pub page : IsSomeAnd window.page (HasForm form tall window.column)
  pub workspace : IsWorkspaceFor (window_shape form tall window.column) window.workspace
  pub counts : HasCounts form window.counts

-- and for all windows of a strip
abbrev pub IsStripWorkspace : Form → ℕ → StripWorkspace → Type 0
IsStripWorkspace form tall workspace = All (IsWindowWorkspace form tall) workspace.windows.items

-- the columns of the windows
abbrev pub columns_in : StripWorkspace → List Span
columns_in workspace = map (λ window. window.column) workspace.windows.items

-- and their planes
abbrev pub tiles_in : StripWorkspace → List (List Plane)
tiles_in workspace = map (λ window. window.workspace.outcome.planes) workspace.windows.items

-- a window of a ruler's
abbrev pub IsWindowOf : Ruler → WindowWorkspace → Type 0
IsWindowOf across window = IsSomeSpan across window.column

-- a window's room with its new tints, and with what is counted in its core, of which the first
-- row is row `at` of the sheet
pub record IsTrappedIn (sheet : PageParts) (row : Span) (at : ℕ) (window : WindowWorkspace)
    : Type 0 where
  pub workspace : IsWindowWorkspace (form_of sheet) row.wide window
  pub planes : window.workspace.outcome.planes ≡ planes_of sheet row window.column
  pub counts : HasArea sheet (window.column.from + window.column.skip) at window.column.core
      row.core window.counts
