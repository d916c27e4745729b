-- The turns of a path round a point, segment by segment, from some vertex on.
use Rattle.std.proofs.Common.{ap, sym, ◌∙◌, ◌≡◌, ℕ, suc, Bool, if◌then◌else◌, ◌+◌, ◌<◌, ◌≤◌, true, false, inl, inr, refl, List, ◌∷◌, length, drop, add-one, [], pos, arith}
use Rattle.std.specs.Prelude.{◌+ℤ◌, slice_index_or, ℤ}
use Rattle.std.proofs.lemmas.Int.{ints}
use Rattle.std.proofs.lemmas.Bool.{cases_Bool}
use Rattle.std.proofs.Math.Seq.{drop-cons}
use Rattle.std.proofs.lemmas.List.{drop_all}
use Rattle.page_model.specs.declared.parts.Vertex.{Vertex}
use Rattle.page_model.specs.Conditions.{IsVertex}
use Rattle.page_model.specs.Zones.{Point, corner, turn, turns, winding}
use Rattle.zone_map.specs.Subpaths.{segment_end, start_at}

turns-cons : (r : ℕ) (p : Point) (start last v : Vertex) (vs : List Vertex) → turns r p start last (v ∷ vs) ≡ turn p (corner r last) (corner r (segment_end start v)) +ℤ turns r p (start_at start v) v vs
turns-cons r p start last v vs = elim (cases_Bool v.starts) [ inl t ↦ rw t refl | inr f ↦ rw f refl ]

-- the turns from vertex i on: that of the segment to it, and those after it
pub turns-drop : (r : ℕ) (p : Point) (start last d : Vertex) (path : List Vertex) (i : ℕ) → i < length path → turns r p start last (drop i path) ≡ turn p (corner r last) (corner r (segment_end start (slice_index_or path i d))) +ℤ turns r p (start_at start (slice_index_or path i d)) (slice_index_or path i d) (drop (i + 1) path)
turns-drop r p start last d path i l = rw (drop-cons path i d l, add-one) (turns-cons r p start last (slice_index_or path i d) (drop (suc i) path))

-- after the last vertex the subpath is closed
pub turns-end : (r : ℕ) (p : Point) (start last : Vertex) (path : List Vertex) (i : ℕ) → length path ≤ i → turns r p start last (drop i path) ≡ turn p (corner r last) (corner r start)
turns-end r p start last path i l = rw (drop_all i path l) refl

pub start_at-near : (start v : Vertex) → IsVertex start → IsVertex v → IsVertex (start_at start v)
start_at-near start v h k = pick v.starts where
  pick : (b : Bool) → IsVertex (if b then v else start)
  pick true = k
  pick false = h

-- a path begins with the turns after its first vertex
pub turns-first : (r : ℕ) (p : Point) (path : List Vertex) (d : Vertex) → 0 < length path → turns r p (slice_index_or path 0 d) (slice_index_or path 0 d) (drop 1 path) ≡ winding r p path
turns-first r p [] d l = absurd (omega (arith, l))
turns-first r p (v ∷ vs) d l = refl

pub winding-none : (r : ℕ) (p : Point) (path : List Vertex) → length path ≡ 0 → winding r p path ≡ pos 0
winding-none r p [] e = refl
winding-none r p (v ∷ vs) e = absurd (omega (arith, e))

nothing-more : (m t w : ℤ) → m ≡ pos 0 → t ≡ w → m +ℤ t ≡ w
nothing-more m t w e f = omega (arith, ints, e, f)

pub begun : (m : ℤ) (r : ℕ) (p : Point) (path : List Vertex) (d : Vertex) → 0 < length path → m ≡ pos 0 → m +ℤ turns r p (slice_index_or path 0 d) (slice_index_or path 0 d) (drop 1 path) ≡ winding r p path
begun m r p path d l e = nothing-more m _ _ e (turns-first r p path d l)

regrouped : (s t rest whole : ℤ) → s +ℤ (t +ℤ rest) ≡ whole → (s +ℤ t) +ℤ rest ≡ whole
regrouped s t rest whole e = omega (arith, ints, e)

-- the turns so far and those to come, one vertex on
pub turns-on : (r : ℕ) (p : Point) (start last d s : Vertex) (path : List Vertex) (i : ℕ) (m n : ℤ) (a b : Point) → i < length path → n ≡ m +ℤ turn p a b → a ≡ corner r last → b ≡ corner r (segment_end start (slice_index_or path i d)) → s ≡ start_at start (slice_index_or path i d) → m +ℤ turns r p start last (drop i path) ≡ winding r p path → n +ℤ turns r p s (slice_index_or path i d) (drop (i + 1) path) ≡ winding r p path
turns-on r p start last d s path i m n a b l e ea eb es h =
    let v = slice_index_or path i d in
    let known = ap (λ (t : ℤ). m +ℤ t) (sym (turns-drop r p start last d path i l)) ∙ h in
    rw (e, ea, eb, es) (regrouped m (turn p (corner r last) (corner r (segment_end start v))) (turns r p (start_at start v) v (drop (i + 1) path)) (winding r p path) known)

-- after the last vertex all turns are counted
pub turns-done : (r : ℕ) (p : Point) (start last : Vertex) (path : List Vertex) (i : ℕ) (m n : ℤ) (a b : Point) → length path ≤ i → n ≡ m +ℤ turn p a b → a ≡ corner r last → b ≡ corner r start → m +ℤ turns r p start last (drop i path) ≡ winding r p path → n ≡ winding r p path
turns-done r p start last path i m n a b l e ea eb h =
    let known = ap (λ (t : ℤ). m +ℤ t) (sym (turns-end r p start last path i l)) ∙ h in
    e ∙ rw (ea, eb) known
