-- Which edges decide: open on both sides, in enabled zones, and apart by the limits of each
-- side's zone.
use Rattle.std.specs.Prelude.{ℕ, ◌+◌, Bool, ◌&&◌, not, nat_lt, if◌then◌else◌}
use Rattle.page_model.specs.declared.parts.EdgeAt.{EdgeAt}
use Rattle.page_model.specs.declared.parts.PageParts.{PageParts}
use Rattle.page_model.specs.Page.{params_at, width, height}
use Rattle.page_model.specs.Density.{shut}
use Rattle.page_model.specs.Apart.{apart}
use Rattle.page_model.specs.Edges.{first, second, right_edge, lower_edge}
use Rattle.page_model.specs.Zones.{zone_of}

-- the edge decides, its first sample lying in zone a and its second in zone b
unfoldable pub decides_in : PageParts → ℕ → ℕ → EdgeAt → Bool
decides_in page a b e = not (shut page (first e)) && not (shut page (second e))
    && (params_at page a).enabled && (params_at page b).enabled && apart page a (first e) (second e)
    && apart page b (first e) (second e)

-- a trap may be made at the edge: neither side is shut, both zones are enabled, and the sides
-- are apart by each zone's limits
unfoldable pub decides : PageParts → EdgeAt → Bool
decides page e = decides_in page (zone_of page (first e)) (zone_of page (second e)) e

-- whether the edge to the right of sample (x, y) decides
abbrev pub right_mark : PageParts → ℕ → ℕ → Bool
right_mark page y x = nat_lt (x + 1) (width page) && decides page (right_edge x y)

-- whether the edge below sample (x, y) decides
abbrev pub lower_mark : PageParts → ℕ → ℕ → Bool
lower_mark page y x = nat_lt (y + 1) (height page) && decides page (lower_edge x y)

-- the two marks of a sample: 1 for its right edge and 2 for its lower edge
abbrev pub mark : PageParts → ℕ → ℕ → ℕ
mark page y x = (if right_mark page y x then 1 else 0) + (if lower_mark page y x then 2 else 0)
