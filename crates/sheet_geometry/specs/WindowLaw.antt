-- No byte depends on the cut: what is so of a window as of its sheet.
use Rattle.std.specs.Prelude.{◌≡◌, ℕ, ◌+◌, ◌*◌, ◌<◌, ◌≤◌}
use Rattle.page_model.specs.declared.parts.At.{At}
use Rattle.page_model.specs.declared.parts.EdgeAt.{EdgeAt}
use Rattle.page_model.specs.declared.parts.PageParts.{PageParts}
use Rattle.page_model.specs.Counts.{plate_changes, sample_changes}
use Rattle.page_model.specs.Deciding.{decides, right_mark, lower_mark}
use Rattle.page_model.specs.Edges.{IsEdge}
use Rattle.page_model.specs.Page.{InPage, tint, width, height}
use Rattle.page_model.specs.Reach.{page_reach}
use Rattle.page_model.specs.Tints.{new}
use Rattle.page_model.specs.Trapped.{is_trapped}
use Rattle.page_model.specs.Zones.{zone_of}
use Rattle.sheet_geometry.specs.declared.cuts.Cut.{Cut}
use Rattle.sheet_geometry.specs.Windows.{on_sheet, edge_on_sheet, window}

-- A sample of the window that is at least `reach` half-samples from each border of the window that
-- is none of the sheet: its middle is that far from the middles of the samples along the border,
-- and so farther from each edge that the window does not have.
pub record IsInside (sheet : PageParts) (cut : Cut) (reach : ℕ) (p : At) : Type 0 where
  pub x : p.x < cut.width
  pub y : p.y < cut.height
  pub left : 0 < cut.left → reach ≤ 2 * p.x
  pub right : cut.left + cut.width < width sheet → reach + 2 * p.x + 2 ≤ 2 * cut.width
  pub top : 0 < cut.top → reach ≤ 2 * p.y
  pub bottom : cut.top + cut.height < height sheet → reach + 2 * p.y + 2 ≤ 2 * cut.height

-- each sample of the window, up to its borders, has its tints and its zone
pub record SampleAlike (sheet : PageParts) (cut : Cut) (p : At) : Type 0 where
  pub tints : (c : ℕ) → tint (window sheet cut) c p ≡ tint sheet c (on_sheet cut p)
  pub zone : zone_of (window sheet cut) p ≡ zone_of sheet (on_sheet cut p)

-- each sample has the mark of its right edge if the window has its right neighbour, or the sheet
-- has none; and so below
pub record MarksAlike (sheet : PageParts) (cut : Cut) (p : At) : Type 0 where
  pub right : (cut.left + cut.width < width sheet → p.x + 1 < cut.width)
      → right_mark (window sheet cut) p.y p.x ≡ right_mark sheet (cut.top + p.y) (cut.left + p.x)
  pub lower : (cut.top + cut.height < height sheet → p.y + 1 < cut.height)
      → lower_mark (window sheet cut) p.y p.x ≡ lower_mark sheet (cut.top + p.y) (cut.left + p.x)

-- a sample is trapped as on the sheet, has the new tints that it has there, and changes as there
pub record TrapsAlike (sheet : PageParts) (cut : Cut) (p : At) : Type 0 where
  pub trapped : is_trapped (window sheet cut) p ≡ is_trapped sheet (on_sheet cut p)
  pub tints : (c : ℕ) → new (window sheet cut) p c ≡ new sheet (on_sheet cut p) c
  pub plates : (c : ℕ)
      → plate_changes (window sheet cut) c p ≡ plate_changes sheet c (on_sheet cut p)
  pub changes : sample_changes (window sheet cut) p ≡ sample_changes sheet (on_sheet cut p)

-- what a window and its sheet have in common
pub record WindowLaw (sheet : PageParts) (cut : Cut) : Type 0 where
  pub samples : (p : At) → InPage (window sheet cut) p → SampleAlike sheet cut p
  pub edges : (e : EdgeAt) → IsEdge (window sheet cut) e
      → decides (window sheet cut) e ≡ decides sheet (edge_on_sheet cut e)
  pub marks : (p : At) → InPage (window sheet cut) p → MarksAlike sheet cut p
  pub reach : page_reach (window sheet cut) ≡ page_reach sheet
  pub traps : (p : At) → IsInside sheet cut (page_reach sheet) p → TrapsAlike sheet cut p
