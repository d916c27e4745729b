-- The winding number of a path is the sum of those of its subpaths, and each of these the sum over its segments.
use Rattle.std.proofs.Common.{◌≡◌, ℕ, Bool, true, false, List, [], ◌∷◌, ◌++◌, ℤ, ◌+ℤ◌, refl, sym, ap, ◌∙◌, if◌then◌else◌}
use Rattle.std.specs.List.{All}
use Rattle.std.proofs.Math.IntN.{+ℤ_assoc, +ℤ_idl, +ℤ_idr}
use Rattle.std.proofs.lemmas.List.Elements.{All-head, All-tail}
use Rattle.page_model.specs.declared.parts.Vertex.{Vertex}
use Rattle.page_model.specs.Conditions.{begins}
use Rattle.page_model.specs.Subpaths.{along, turns_of, SubpathLaw, SubpathsLaw}
use Rattle.page_model.specs.Zones.{Point, corner, turn, turns, winding}

either : (b : Bool) (x y x' y' w : ℤ) → x ≡ x' +ℤ w → y ≡ y' +ℤ w → (if b then x else y) ≡ (if b then x' else y') +ℤ w
either true x y x' y' w g h = g
either false x y x' y' w g h = h

taken : (b : Bool) (x y : ℤ) → b ≡ true → (if b then x else y) ≡ x
taken b x y t = rw t refl

not_taken : (b : Bool) (x y : ℤ) → b ≡ false → (if b then x else y) ≡ y
not_taken b x y f = rw f refl

turns-then : (r : ℕ) (p : Point) (start last : Vertex) (vs later : List Vertex) → begins later ≡ true → turns r p start last (vs ++ later) ≡ turns r p start last vs +ℤ winding r p later
turns-then r p start last [] [] h = sym (+ℤ_idr (turn p (corner r last) (corner r start)))
turns-then r p start last [] (w ∷ ws) h = taken w.starts _ _ h
turns-then r p start last (v ∷ vs) later h =
    let back = turn p (corner r last) (corner r start) in
    let on = turn p (corner r last) (corner r v) in
    either v.starts _ _ _ _ (winding r p later)
    (ap (λ t. back +ℤ t) (turns-then r p v v vs later h) ∙ sym (+ℤ_assoc back (turns r p v v vs) (winding r p later)))
    (ap (λ t. on +ℤ t) (turns-then r p start v vs later h) ∙ sym (+ℤ_assoc on (turns r p start v vs) (winding r p later)))

pub subpaths : (r : ℕ) (p : Point) (earlier later : List Vertex) → SubpathsLaw r p earlier later
subpaths r p [] later h = sym (+ℤ_idl (winding r p later))
subpaths r p (v ∷ vs) later h = turns-then r p v v vs later h

turns-along : (r : ℕ) (p : Point) (start last : Vertex) (vs : List Vertex) → All (λ (v : Vertex). v.starts ≡ false) vs → turns r p start last vs ≡ turns_of r p (along (last ∷ vs ++ start ∷ []))
turns-along r p start last [] h = sym (+ℤ_idr (turn p (corner r last) (corner r start)))
turns-along r p start last (v ∷ vs) h =
    not_taken v.starts _ _ (All-head (λ (w : Vertex). w.starts ≡ false) v vs h)
    ∙ ap (λ t. turn p (corner r last) (corner r v) +ℤ t) (turns-along r p start v vs (All-tail (λ (w : Vertex). w.starts ≡ false) v vs h))

pub subpath : (r : ℕ) (p : Point) (start : Vertex) (vs : List Vertex) → SubpathLaw r p start vs
subpath r p start vs h = turns-along r p start start vs h
