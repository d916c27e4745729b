-- A strip while its rows are read: a sheet of its own but for its tints.
use Rattle.std.specs.Prelude.{◌≡◌, ℕ, ◌+◌, ◌-◌, ◌≤◌, List, map, replicate, ◌*◌}
use Rattle.sheet_geometry.specs.Begun.{BeginsWith}
use Rattle.page_model.specs.declared.parts.PageParts.{PageParts}
use Rattle.page_model.specs.declared.parts.Plane.{Plane}
use Rattle.page_model.specs.Page.{height}
use Rattle.sheet_stream.specs.Holding.{HaveWorkspaceFor, HoldRowsFrom}
use Rattle.sheet_geometry.specs.declared.spans.Span.{Span}
use Rattle.sheet_geometry.specs.Strips.{strip_parts}
use Rattle.sheet_geometry.specs.Windows.{moved_zone, points_of}
use Rattle.sheet_geometry.specs.Forms.{zone_form}

-- a plane of `rows` rows, of no ink
abbrev pub blank_plane : ℕ → Plane → Plane
blank_plane rows plane = record {
  width = plane.width;
  height = rows;
  maxval = plane.maxval;
  tints = replicate (plane.width * rows) 0;
}

-- Of a strip of these rows all but the tints: its inks, and its zones from its own lower left
-- corner. Its planes have room for its rows.
pub record IsStripOf (outline : PageParts) (row : Span) (parts : PageParts) : Type 0 where
  pub resolution : parts.resolution ≡ outline.resolution
  pub inks : parts.inks ≡ outline.inks
  pub zones : parts.zones ≡ map (moved_zone (points_of outline.resolution 0)
      (points_of outline.resolution (height outline - (row.from + row.wide)))) outline.zones
  pub planes : HaveWorkspaceFor outline row.wide parts.planes

-- A strip is turned to these rows: its zones stand from their corner, and all else is as it was.
pub record TurnsTo (outline : PageParts) (row : Span) (old new : PageParts) : Type 0 where
  pub resolution : new.resolution ≡ old.resolution
  pub planes : new.planes ≡ old.planes
  pub inks : new.inks ≡ old.inks
  pub zones : new.zones ≡ map (moved_zone (points_of outline.resolution 0)
      (points_of outline.resolution (height outline - (row.from + row.wide)))) outline.zones

-- Where a strip is turned to as many rows, it is a strip of them.
abbrev pub TurnedIsStrip : Type 0
TurnedIsStrip = (outline : PageParts) (last row : Span) (old new : PageParts)
    → IsStripOf outline last old → last.wide ≡ row.wide → TurnsTo outline row old new
    → IsStripOf outline row new

-- All strips of a sheet have zones of one form.
abbrev pub StripsHaveForm : Type 0
StripsHaveForm = (outline : PageParts) (row : Span) (parts : PageParts) → IsStripOf outline row parts
    → map zone_form parts.zones ≡ map zone_form outline.zones

-- Once its planes hold its rows, it is the strip, of each sheet that begins with what was read.
abbrev pub StripIsMade : Type 0
StripIsMade = (outline sheet : PageParts) (row : Span) (tints : ℕ → List ℕ) (parts : PageParts)
    → IsStripOf outline row parts → HoldRowsFrom outline row.from row.wide tints parts.planes
    → BeginsWith outline tints sheet → row.from + row.wide ≤ height sheet
    → parts ≡ strip_parts sheet row
