-- What is drawn is the path of a zone.
use Rattle.std.proofs.Common.{ap, ◌∙◌, ℤ, ◌≡◌, ◌+◌, ◌<◌, ◌≤◌, Bool, true, false, cond, List, [], ◌∷◌, ◌++◌, length, Some, Result, Ok, Err, refl, subst, arith, All}
use Rattle.std.specs.Prelude.{nat_abs, nat_le}
use Rattle.std.proofs.lemmas.Bool.{and_parts}
use Rattle.std.proofs.lemmas.Bool.Decides.{nat_tests}
use Rattle.std.proofs.lemmas.List.{length-append}
use Rattle.std.proofs.lemmas.List.Elements.{All-append, All-cons}
use Rattle.page_model.specs.declared.parts.Vertex.{Vertex}
use Rattle.page_model.specs.Conditions.{IsVertex, IsPath, begins}
use Rattle.ps_tokens.specs.declared.faults.FaultKind.{FaultKind}
use Rattle.ps_tokens.specs.declared.faults.FaultKind.TheVariants.{CoordinateRange, TooManyVertices}
use Rattle.job_parts.specs.declared.pen.Point.{Point}
use Rattle.job_parts.specs.declared.pen.Pen.{Pen}
use Rattle.job_parts.specs.Paths.{Drawing, is_near, vertex_at, with_vertices, begun_at, line_vertices, lined_to, IsPen, IsDrawing, offset_point, from_pen, rmoveto, rlineto}

-- a near point makes a vertex
IsVertex-near : (p : Point) (starts : Bool) → is_near p ≡ true → IsVertex (vertex_at p starts)
IsVertex-near p starts near =
    let both = and_parts (nat_le (nat_abs p.x) 10000000000) (nat_le (nat_abs p.y) 10000000000) near in
    let x : nat_le (nat_abs p.x) 10000000000 ≡ true = both.0 in
    let y : nat_le (nat_abs p.y) 10000000000 ≡ true = both.1 in
    record { x_near = grind (arith, nat_tests); y_near = grind (arith, nat_tests) }

none : All IsVertex []
none k d h = absurd (omega arith)

one_near : (v : Vertex) → IsVertex v → All IsVertex (v ∷ [])
one_near v is = All-cons IsVertex v [] is none

begins-append : (vs more : List Vertex) → begins vs ≡ true → begins more ≡ true → begins (vs ++ more) ≡ true
begins-append [] more here there = there
begins-append (v ∷ vs) more here there = here

begins-more : (vs more : List Vertex) → 0 < length vs → begins vs ≡ true → begins (vs ++ more) ≡ true
begins-more [] more some here = absurd (omega arith)
begins-more (v ∷ vs) more some here = here

-- what few near vertices extend is a path
with_vertices-path : (vs more : List Vertex) → IsPath vs → begins (vs ++ more) ≡ true → All IsVertex more → nat_le (length vs + length more) 4096 ≡ true → IsPath (vs ++ more)
with_vertices-path vs more path begun near few =
    let len = length-append vs more in
    let fits : length vs + length more ≤ 4096 = grind (arith, nat_tests) in
    record { begun = begun; few = rw len fits; near = All-append IsVertex vs more path.near near }

-- a drawing, or a vertex too many
abbrev if_few : Bool → Drawing → Result Drawing FaultKind
if_few b d = cond b (Ok d) (Err TooManyVertices)

-- a drawing that was extended
with_vertices-drawing : (b : Bool) (vs more : List Vertex) (pen : Pen) (d : Drawing) → nat_le (length vs + length more) 4096 ≡ b → IsPath vs → begins (vs ++ more) ≡ true → All IsVertex more → 1 ≤ length more
    → is_near pen.first ≡ true → is_near pen.at ≡ true
    → if_few b (record { vertices = vs ++ more; pen = Some pen }) ≡ Ok d → IsDrawing d
with_vertices-drawing true vs more pen d few path begun near some first at is =
    let e : record { vertices = vs ++ more; pen = Some pen } ≡ d = cc in
    let len = length-append vs more in
    let P : Drawing → Type 0 = λ x. IsDrawing x in
    subst P e (record { path = with_vertices-path vs more path begun near few; pen = (first, at, omega (arith, len)) })
with_vertices-drawing false vs more pen d few path begun near some first at is = absurd (cc)

begun_by : (b : Bool) (vs : List Vertex) (p : Point) (d : Drawing) → is_near p ≡ b → IsPath vs
    → cond b (with_vertices vs (vertex_at p true ∷ []) (record { first = p; at = p; closed = false })) (Err CoordinateRange) ≡ Ok d → IsDrawing d
begun_by true vs p d near path is =
    with_vertices-drawing (nat_le (length vs + 1) 4096) vs (vertex_at p true ∷ []) (record { first = p; at = p; closed = false }) d refl path (begins-append vs (vertex_at p true ∷ []) path.begun refl) (one_near (vertex_at p true) (IsVertex-near p true near)) (omega arith) near near is
begun_by false vs p d near path is = absurd (cc)

-- a subpath that was begun
pub begun_at-drawing : (vs : List Vertex) (p : Point) (d : Drawing) → IsPath vs → begun_at vs p ≡ Ok d → IsDrawing d
unfolding begun_at
begun_at-drawing vs p d path is = begun_by (is_near p) vs p d refl path is

line-near : (closed : Bool) (at p : Point) → is_near at ≡ true → is_near p ≡ true → All IsVertex (cond closed (vertex_at at true ∷ vertex_at p false ∷ []) (vertex_at p false ∷ []))
line-near true at p one two = All-cons IsVertex (vertex_at at true) (vertex_at p false ∷ []) (IsVertex-near at true one) (one_near (vertex_at p false) (IsVertex-near p false two))
line-near false at p one two = one_near (vertex_at p false) (IsVertex-near p false two)

line-some : (closed : Bool) (at p : Point) → 1 ≤ length (cond closed (vertex_at at true ∷ vertex_at p false ∷ []) (vertex_at p false ∷ []))
line-some true at p = omega arith
line-some false at p = omega arith

lined_by : (b : Bool) (vs : List Vertex) (pen : Pen) (p : Point) (d : Drawing) → is_near p ≡ b → IsPath vs → IsPen vs (Some pen)
    → cond b (with_vertices vs (line_vertices pen p) (record { first = pen.first; at = p; closed = false })) (Err CoordinateRange) ≡ Ok d → IsDrawing d
lined_by true vs pen p d near path suffix is =
    with_vertices-drawing (nat_le (length vs + length (line_vertices pen p)) 4096) vs (line_vertices pen p) (record { first = pen.first; at = p; closed = false }) d refl path (begins-more vs (line_vertices pen p) suffix.2 path.begun) (line-near pen.closed pen.at p suffix.1 near) (line-some pen.closed pen.at p) suffix.0 near is
lined_by false vs pen p d near path suffix is = absurd (cc)

-- a line that was drawn
pub lined_to-drawing : (vs : List Vertex) (pen : Pen) (p : Point) (d : Drawing) → IsPath vs → IsPen vs (Some pen) → lined_to vs pen p ≡ Ok d → IsDrawing d
unfolding lined_to
lined_to-drawing vs pen p d path suffix is = lined_by (is_near p) vs pen p d refl path suffix is

-- nothing is drawn to a point that is far away
begun_at-far : (vs : List Vertex) (p : Point) → is_near p ≡ false → begun_at vs p ≡ Err CoordinateRange
unfolding begun_at
begun_at-far vs p far = ap (λ b. cond b (with_vertices vs (vertex_at p true ∷ []) (record { first = p; at = p; closed = false })) (Err CoordinateRange)) far

lined_to-far : (vs : List Vertex) (pen : Pen) (p : Point) → is_near p ≡ false → lined_to vs pen p ≡ Err CoordinateRange
unfolding lined_to
lined_to-far vs pen p far = ap (λ b. cond b (with_vertices vs (line_vertices pen p) (record { first = pen.first; at = p; closed = false })) (Err CoordinateRange)) far

pub rmoveto-far : (d : Drawing) (pen : Pen) (dx dy : ℤ) → d.pen ≡ Some pen → is_near (offset_point pen.at dx dy) ≡ false → rmoveto dx dy d ≡ Err CoordinateRange
rmoveto-far d pen dx dy is far =
    ap (λ o. from_pen o (λ p. begun_at d.vertices (offset_point p.at dx dy))) is ∙ begun_at-far d.vertices (offset_point pen.at dx dy) far

pub rlineto-far : (d : Drawing) (pen : Pen) (dx dy : ℤ) → d.pen ≡ Some pen → is_near (offset_point pen.at dx dy) ≡ false → rlineto dx dy d ≡ Err CoordinateRange
rlineto-far d pen dx dy is far =
    ap (λ o. from_pen o (λ p. lined_to d.vertices p (offset_point p.at dx dy))) is ∙ lined_to-far d.vertices pen (offset_point pen.at dx dy) far
