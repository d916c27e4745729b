-- A path winds round no point above or below all of its vertices.
use Rattle.std.proofs.Common.{◌≡◌, ap, refl, sym, ◌∙◌, ℕ, Bool, true, false, List, [], ◌∷◌, pos, arith, if◌then◌else◌, length, zero, suc, ◌<◌}
use Rattle.std.specs.Prelude.{ℤ, ◌+ℤ◌, ◌&&◌, int_lt, int_le, All, slice_index_or}
use Rattle.std.proofs.lemmas.Int.{ints}
use Rattle.std.proofs.lemmas.Bool.{cases_Bool}
use Rattle.page_model.specs.declared.parts.Vertex.{Vertex}
use Rattle.page_model.specs.Zones.{Point, corner, turn, turns, winding}
use Rattle.zone_map.specs.declared.extent.Extent.{Extent}
use Rattle.zone_map.specs.Extents.{IsBetween, Spans}
use Rattle.zone_map.proofs.TurnTests.{turn-none}

-- past no end the default does not matter
pub any_default : {X : Type 0} (xs : List X) (k : ℕ) (d e : X) → k < length xs → slice_index_or xs k d ≡ slice_index_or xs k e
any_default [] k d e l = absurd (omega (arith, l))
any_default (x ∷ xs) zero d e l = refl
any_default (x ∷ xs) (suc k) d e l = any_default xs k d e (omega (arith, l))

pub le_trans : (a b c : ℤ) → int_le a b ≡ true → int_le b c ≡ true → int_le a c ≡ true
le_trans a b c h k = grind (arith, ints)

-- a segment between two heights does not rise through a height that is not between them
no_rise : (low high a b y : ℤ) → int_le low a ≡ true → int_le b high ≡ true → (int_le low y && int_lt y high) ≡ false → (int_le a y && int_lt y b) ≡ false
no_rise low high a b y h k off = grind (arith, ints)

module _ (r : ℕ) (p : Point) (extent : Extent) (off : (int_le extent.low p.py && int_lt p.py extent.high) ≡ false) where
  turn-off : (u v : Vertex) → IsBetween r extent u → IsBetween r extent v → turn p (corner r u) (corner r v) ≡ pos 0
  turn-off u v hu hv =
      turn-none p (corner r u) (corner r v)
      (no_rise extent.low extent.high (corner r u).py (corner r v).py p.py hu.low hv.high off)
      (no_rise extent.low extent.high (corner r v).py (corner r u).py p.py hv.low hu.high off)

  none-both : (s t : ℤ) → s ≡ pos 0 → t ≡ pos 0 → s +ℤ t ≡ pos 0
  none-both s t e f = omega (arith, ints, e, f)

  tail : (v : Vertex) (vs : List Vertex) → Spans r extent (v ∷ vs) → Spans r extent vs
  tail v vs all = λ k d l. all (suc k) d (omega (arith, l))

  -- the turns of the segments from the last vertex on, where the next vertex begins another subpath, and where it does not
  next-off : (start last v : Vertex) (vs : List Vertex) → turn p (corner r last) (corner r start) ≡ pos 0 → turn p (corner r last) (corner r v) ≡ pos 0
      → turns r p v v vs ≡ pos 0 → turns r p start v vs ≡ pos 0 → turns r p start last (v ∷ vs) ≡ pos 0
  next-off start last v vs back on begun gone = pick v.starts
    where
      pick : (b : Bool) → (if b then turn p (corner r last) (corner r start) +ℤ turns r p v v vs else turn p (corner r last) (corner r v) +ℤ turns r p start v vs) ≡ pos 0
      pick true = none-both _ _ back begun
      pick false = none-both _ _ on gone

  turns-off : (start last : Vertex) (vs : List Vertex) → IsBetween r extent start → IsBetween r extent last → Spans r extent vs → turns r p start last vs ≡ pos 0
  turns-off start last [] hs hl all = turn-off last start hl hs
  turns-off start last (v ∷ vs) hs hl all =
      let hv : IsBetween r extent v = all 0 v (omega arith) in
      next-off start last v vs (turn-off last start hl hs) (turn-off last v hl hv) (turns-off v v vs hv hv (tail v vs all)) (turns-off start v vs hs hv (tail v vs all))

  pub winding-off : (path : List Vertex) → Spans r extent path → winding r p path ≡ pos 0
  winding-off [] all = refl
  winding-off (v ∷ vs) all = let hv : IsBetween r extent v = all 0 v (omega arith) in turns-off v v vs hv hv (tail v vs all)
