-- Which zone a sample belongs to: the last one whose path winds round the sample's middle.
use Rattle.std.specs.Prelude.{◌≡◌, ℕ, zero, suc, ◌+◌, ◌-◌, ◌*◌, ◌<◌, ◌&&◌, not, Bool, List, [], ◌∷◌}
use Rattle.std.specs.Prelude.{length, slice_index, ℤ, pos, ◌+ℤ◌, ◌-ℤ◌, ◌*ℤ◌, if◌then◌else◌, int_lt}
use Rattle.std.specs.Prelude.{int_le}
use Rattle.std.specs.Ordering.{int_eq}
use Rattle.page_model.specs.declared.parts.At.{At}
use Rattle.page_model.specs.declared.parts.PageParts.{PageParts}
use Rattle.page_model.specs.declared.parts.Vertex.{Vertex}
use Rattle.page_model.specs.Page.{width, height, path_at}
use Rattle.page_model.specs.Limits.{scale}

-- a point of the page from its lower left corner, in ten-thousandths of a 72nd of an inch times
-- the resolution; a sample is 720000 wide
pub record Point : Type 0 where
  pub px : ℤ
  pub py : ℤ

-- the middle of a sample
abbrev pub centre : PageParts → At → Point
centre page p =
    record {
      px = pos ((2 * p.x + 1) * (36 * scale));
      py = pos ((2 * (height page - p.y) - 1) * (36 * scale));
    }

-- where a vertex stands
abbrev pub corner : ℕ → Vertex → Point
corner resolution v = record { px = v.x *ℤ pos resolution; py = v.y *ℤ pos resolution }

-- twice the area of the triangle from a to b to p: above 0 where p lies to the left of the way
-- from a to b
unfoldable pub lean : Point → Point → Point → ℤ
lean a b p = ((b.px -ℤ a.px) *ℤ (p.py -ℤ a.py)) -ℤ ((p.px -ℤ a.px) *ℤ (b.py -ℤ a.py))

-- what the segment from a to b adds to the winding number of p: 1 where it passes p's right side
-- upwards, -1 downwards
unfoldable pub turn : Point → Point → Point → ℤ
turn p a b =
    if int_le a.py p.py && int_lt p.py b.py && int_lt (pos 0) (lean a b p) then pos 1
    else if int_le b.py p.py && int_lt p.py a.py && int_lt (lean a b p) (pos 0) then pos 0 -ℤ pos 1
    else pos 0

-- the turns of the segments from the last vertex on; each subpath is closed to its own start
abbrev pub turns : ℕ → Point → Vertex → Vertex → List Vertex → ℤ
turns resolution p start last [] = turn p (corner resolution last) (corner resolution start)
turns resolution p start last (v ∷ vs) =
    if v.starts then turn p (corner resolution last)
    (corner resolution start) +ℤ turns resolution p v v vs
    else turn p (corner resolution last) (corner resolution v) +ℤ turns resolution p start v vs

-- the winding number of a point: the sum of the turns of all segments of a path
abbrev pub winding : ℕ → Point → List Vertex → ℤ
winding resolution p [] = pos 0
winding resolution p (v ∷ vs) = turns resolution p v v vs

-- whether the path of zone z winds round the sample's middle
unfoldable pub covers : PageParts → At → ℕ → Bool
covers page p z = not (int_eq (winding page.resolution (centre page p) (path_at page z)) (pos 0))

-- the greatest of the zones 1 to n that covers the sample, else 0
abbrev pub greatest_cover : PageParts → At → ℕ → ℕ
greatest_cover page p zero = 0
greatest_cover page p (suc n) = if covers page p (suc n) then suc n else greatest_cover page p n

-- the zone of a sample: later zones cover earlier ones, and zone 0 is the rest
unfoldable pub zone_of : PageParts → At → ℕ
zone_of page p = greatest_cover page p (length page.zones - 1)

-- the zones of the samples of row y
pub record AreZones (page : PageParts) (y : ℕ) (zones : List ℕ) : Type 0 where
  pub wide : length zones ≡ width page
  pub each : (x : ℕ) → x < width page → slice_index zones x ≡ zone_of page (record { x = x; y = y })
