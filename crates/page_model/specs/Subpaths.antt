-- What a path is made of: subpaths, each closed to its own start, and their segments.
use Rattle.std.specs.Prelude.{◌≡◌, ℕ, true, false, List, [], ◌∷◌, ◌++◌, ℤ, pos, ◌+ℤ◌}
use Rattle.std.specs.List.{All}
use Rattle.page_model.specs.declared.parts.Vertex.{Vertex}
use Rattle.page_model.specs.Conditions.{begins}
use Rattle.page_model.specs.Zones.{Point, corner, turn, winding}

-- a segment from one vertex to another
pub record Segment : Type 0 where
  pub tail : Vertex
  pub head : Vertex

-- the segments along a list of vertices
abbrev pub along : List Vertex → List Segment
along [] = []
along (v ∷ []) = []
along (v ∷ w ∷ vs) = record { tail = v; head = w } ∷ along (w ∷ vs)

-- the sum of the turns of segments about a point
abbrev pub turns_of : ℕ → Point → List Segment → ℤ
turns_of resolution p [] = pos 0
turns_of resolution p (s ∷ ss) =
    turn p (corner resolution s.tail) (corner resolution s.head) +ℤ turns_of resolution p ss

-- a closed subpath, from its start along its vertices and back, turns by the sum of its segments
abbrev pub SubpathLaw : ℕ → Point → Vertex → List Vertex → Type 0
SubpathLaw resolution p start vs = All (λ (v : Vertex). v.starts ≡ false) vs
    → winding resolution p (start ∷ vs) ≡ turns_of resolution p (along (start ∷ vs ++ start ∷ []))

-- subpaths one after another wind as often as the sum of theirs
abbrev pub SubpathsLaw : ℕ → Point → List Vertex → List Vertex → Type 0
SubpathsLaw resolution p earlier later = begins later ≡ true
    → winding resolution p (earlier ++ later)
    ≡ winding resolution p earlier +ℤ winding resolution p later
