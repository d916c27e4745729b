-- What the path statements of a job draw.
use Rattle.std.specs.Prelude.{◌≡◌, ℕ, ℤ, ◌+◌, ◌+ℤ◌, ◌<◌, Bool, true, false, List, [], ◌∷◌, ◌++◌}
use Rattle.std.specs.Prelude.{length, Option, Some, None, Result, Ok, Err, nat_abs, nat_le, ◌&&◌}
use Rattle.std.specs.Prelude.{if◌then◌else◌}
use Rattle.page_model.specs.declared.parts.Vertex.{Vertex}
use Rattle.page_model.specs.Conditions.{IsPath}
use Rattle.ps_tokens.specs.declared.faults.FaultKind.{FaultKind}
use Rattle.ps_tokens.specs.declared.faults.FaultKind.TheVariants.{NoCurrentPoint, CoordinateRange}
use Rattle.ps_tokens.specs.declared.faults.FaultKind.TheVariants.{TooManyVertices}
use Rattle.job_parts.specs.declared.pen.Point.{Point}
use Rattle.job_parts.specs.declared.pen.Pen.{Pen}
use Rattle.page_model.specs.Limits.{most_coordinate, most_vertices}

-- a path as its statements leave it: its vertices, and the pen at its current point, if it has one
pub record Drawing : Type 0 where
  pub vertices : List Vertex
  pub pen : Option Pen

-- the empty path
abbrev pub nothing_drawn : Drawing
nothing_drawn = record { vertices = []; pen = None }

-- whether a point is no farther from the origin, in x and in y
abbrev pub is_near : Point → Bool
is_near p = nat_le (nat_abs p.x) most_coordinate && nat_le (nat_abs p.y) most_coordinate

-- the vertex at a point; it begins a subpath or not
abbrev pub vertex_at : Point → Bool → Vertex
vertex_at p starts = record { x = p.x; y = p.y; starts = starts }

-- the point that lies so far away from another
abbrev pub offset_point : Point → ℤ → ℤ → Point
offset_point p dx dy = record { x = p.x +ℤ dx; y = p.y +ℤ dy }

-- these vertices more and the pen after them, unless these are too many
abbrev pub with_vertices : List Vertex → List Vertex → Pen → Result Drawing FaultKind
with_vertices vertices more pen =
    if nat_le (length vertices + length more) most_vertices
    then Ok (record { vertices = vertices ++ more; pen = Some pen })
    else Err TooManyVertices

-- one more subpath, which begins at a point
unfoldable pub begun_at : List Vertex → Point → Result Drawing FaultKind
begun_at vertices p =
    if is_near p then with_vertices vertices (vertex_at p true ∷ [])
    (record { first = p; at = p; closed = false })
    else Err CoordinateRange

-- the vertices of a line to a point: after a closed subpath it first begins one at the current
-- point
abbrev pub line_vertices : Pen → Point → List Vertex
line_vertices pen p =
    if pen.closed then vertex_at pen.at true ∷ vertex_at p false ∷ [] else vertex_at p false ∷ []

-- one more line, from the pen to a point
unfoldable pub lined_to : List Vertex → Pen → Point → Result Drawing FaultKind
lined_to vertices pen p =
    if is_near p then with_vertices vertices (line_vertices pen p)
    (record { first = pen.first; at = p; closed = false })
    else Err CoordinateRange

-- what is drawn from the pen; without one there is no current point
abbrev pub from_pen : Option Pen → (Pen → Result Drawing FaultKind) → Result Drawing FaultKind
from_pen None draw = Err NoCurrentPoint
from_pen (Some pen) draw = draw pen

-- `x y moveto`
abbrev pub moveto : ℤ → ℤ → Drawing → Result Drawing FaultKind
moveto x y d = begun_at d.vertices (record { x = x; y = y })

-- `dx dy rmoveto`
abbrev pub rmoveto : ℤ → ℤ → Drawing → Result Drawing FaultKind
rmoveto dx dy d = from_pen d.pen (λ pen. begun_at d.vertices (offset_point pen.at dx dy))

-- `x y lineto`
abbrev pub lineto : ℤ → ℤ → Drawing → Result Drawing FaultKind
lineto x y d = from_pen d.pen (λ pen. lined_to d.vertices pen (record { x = x; y = y }))

-- `dx dy rlineto`
abbrev pub rlineto : ℤ → ℤ → Drawing → Result Drawing FaultKind
rlineto dx dy d = from_pen d.pen (λ pen. lined_to d.vertices pen (offset_point pen.at dx dy))

-- the pen after `closepath` stands at the first point of the subpath, which is closed
abbrev pub closed_pen : Option Pen → Option Pen
closed_pen None = None
closed_pen (Some pen) = Some (record { first = pen.first; at = pen.first; closed = true })

-- `closepath`
abbrev pub closepath : Drawing → Drawing
closepath d = record { vertices = d.vertices; pen = closed_pen d.pen }

-- a pen stands within a million points of the origin, after at least one vertex
abbrev pub IsPen : List Vertex → Option Pen → Type 0
IsPen vertices None = Unit {0}
IsPen vertices (Some pen) =
    (is_near pen.first ≡ true) × (is_near pen.at ≡ true) × (0 < length vertices)

-- the path of a zone, and a pen after it
pub record IsDrawing (d : Drawing) : Type 0 where
  pub path : IsPath d.vertices
  pub pen : IsPen d.vertices d.pen
