-- The windows of a strip of a sheet after trapping.
use Rattle.std.specs.Prelude.{◌+◌, List}
use Rattle.page_model.specs.declared.parts.PageParts.{PageParts}
use Rattle.page_model.specs.declared.parts.Plane.{Plane}
use Rattle.page_model.specs.Tints.{trapped_planes}
use Rattle.sheet_geometry.specs.declared.spans.Span.{Span}
use Rattle.sheet_geometry.specs.declared.spans.Ruler.{Ruler}
use Rattle.sheet_geometry.specs.Plans.{tile_of}
use Rattle.sheet_geometry.specs.Spans.{IsSpan}
use Rattle.sheet_geometry.specs.Windows.{window}

-- the planes of the window of these rows and columns
abbrev pub planes_of : PageParts → Span → Span → List Plane
planes_of sheet row column = trapped_planes (window sheet (tile_of column row).cut)

-- a span of that ruler, wherever its core begins
abbrev pub IsSomeSpan : Ruler → Span → Type 0
IsSomeSpan ruler span = IsSpan ruler (span.from + span.skip) span
