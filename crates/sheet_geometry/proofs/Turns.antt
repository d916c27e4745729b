-- A path and a point that are moved alike: the path winds round the point as often.
use Rattle.std.proofs.Common.{◌≡◌, ℕ, zero, suc, ◌*◌, ◌&&◌, List, [], ◌∷◌, pos, refl, ap, ◌∙◌, arith, if◌then◌else◌}
use Rattle.std.specs.Prelude.{ℤ, ◌+ℤ◌, ◌-ℤ◌, ◌*ℤ◌, int_lt, int_le, map}
use Rattle.std.proofs.Math.IntN.{*ℤ_comm, *ℤ-zero, suc_ℤ-*ℤ}
use Rattle.std.proofs.lemmas.Int.{ints}
use Rattle.page_model.specs.declared.parts.Vertex.{Vertex}
use Rattle.page_model.specs.Zones.{Point, corner, lean, turn, turns, winding}
use Rattle.sheet_geometry.specs.Windows.{moved_vertex}

times-suc : (m : ℤ) (r : ℕ) → m *ℤ pos (suc r) ≡ m *ℤ pos r +ℤ m
times-suc m r = *ℤ_comm m (pos (suc r)) ∙ suc_ℤ-*ℤ (pos r) m ∙ ap (λ (x : ℤ). x +ℤ m) (*ℤ_comm (pos r) m)

none-left : pos 0 ≡ pos 0 -ℤ pos 0
none-left = refl

one-more : (p a b x y : ℤ) → p ≡ x -ℤ y → p +ℤ (a -ℤ b) ≡ (x +ℤ a) -ℤ (y +ℤ b)
one-more p a b x y e = omega (arith, ints)

-- a product of a difference
sub-times : (a b : ℤ) (r : ℕ) → (a -ℤ b) *ℤ pos r ≡ a *ℤ pos r -ℤ b *ℤ pos r
sub-times a b zero = rw (*ℤ-zero (a -ℤ b), *ℤ-zero a, *ℤ-zero b) none-left
sub-times a b (suc r) = rw (times-suc (a -ℤ b) r, times-suc a r, times-suc b r) (one-more ((a -ℤ b) *ℤ pos r) a b (a *ℤ pos r) (b *ℤ pos r) (sub-times a b r))

-- a point from an origin that stands so far to the right and up
abbrev pub from : ℤ → ℤ → Point → Point
from right up p = record { px = p.px -ℤ right; py = p.py -ℤ up }

less-from : (a b d : ℤ) → int_lt (a -ℤ d) (b -ℤ d) ≡ int_lt a b
less-from a b d = grind (arith, ints)

most-from : (a b d : ℤ) → int_le (a -ℤ d) (b -ℤ d) ≡ int_le a b
most-from a b d = grind (arith, ints)

way-from : (a b d : ℤ) → (a -ℤ d) -ℤ (b -ℤ d) ≡ a -ℤ b
way-from a b d = omega (arith, ints)

lean-from : (right up : ℤ) (a b p : Point) → lean (from right up a) (from right up b) (from right up p) ≡ lean a b p
unfolding lean
lean-from right up a b p = λ i. (way-from b.px a.px right i *ℤ way-from p.py a.py up i) -ℤ (way-from p.px a.px right i *ℤ way-from b.py a.py up i)

turn-from : (right up : ℤ) (p a b : Point) → turn (from right up p) (from right up a) (from right up b) ≡ turn p a b
unfolding turn
turn-from right up p a b = λ i.
    if most-from a.py p.py up i && less-from p.py b.py up i && int_lt (pos 0) (lean-from right up a b p i) then pos 1
    else if most-from b.py p.py up i && less-from p.py a.py up i && int_lt (lean-from right up a b p i) (pos 0) then pos 0 -ℤ pos 1
    else pos 0

-- where a moved vertex stands
pub corner-from : (resolution right up : ℕ) (v : Vertex) → corner resolution (moved_vertex right up v) ≡ from (pos (right * resolution)) (pos (up * resolution)) (corner resolution v)
corner-from resolution right up v = λ i. record { px = sub-times v.x (pos right) resolution i; py = sub-times v.y (pos up) resolution i }

module _ (resolution right up : ℕ) (p : Point) where
  abbrev moved : Vertex → Vertex
  moved v = moved_vertex right up v

  abbrev there : Point → Point
  there q = from (pos (right * resolution)) (pos (up * resolution)) q

  segment : (a b : Vertex) → turn (there p) (corner resolution (moved a)) (corner resolution (moved b)) ≡ turn p (corner resolution a) (corner resolution b)
  segment a b = (λ i. turn (there p) (corner-from resolution right up a i) (corner-from resolution right up b i)) ∙ turn-from (pos (right * resolution)) (pos (up * resolution)) p (corner resolution a) (corner resolution b)

  turns-from : (start last : Vertex) (vs : List Vertex) → turns resolution (there p) (moved start) (moved last) (map (moved_vertex right up) vs) ≡ turns resolution p start last vs
  turns-from start last [] = segment last start
  turns-from start last (v ∷ vs) = λ i. if v.starts then segment last start i +ℤ turns-from v v vs i else segment last v i +ℤ turns-from start v vs i

  pub winding-from : (path : List Vertex) → winding resolution (there p) (map (moved_vertex right up) path) ≡ winding resolution p path
  winding-from [] = refl
  winding-from (v ∷ vs) = turns-from v v vs
