-- The parts of the sample page are those of a page.
use Rattle.std.proofs.Common.{◌≡◌, ℕ, zero, suc, ◌*◌, ◌/◌, ◌%◌, ◌≤◌, List, [], ◌∷◌, length, get_or, true, refl, ◌∙◌, arith, All, length-append, leb, codes}
use Rattle.std.proofs.lemmas.List.Elements.{All-append, All-cons}
use Rattle.std.proofs.lemmas.Bool.{and_parts}
use Rattle.std.specs.List.{list_all}
use Rattle.page_model.specs.declared.parts.Limit.{Limit}
use Rattle.std.proofs.lemmas.Bool.Decides.{nat_tests}
use Rattle.page_model.specs.Conditions.{IsParts, IsPlane, IsInk, IsZone, IsVertex}
use Rattle.lists.specs.Words.{list_below}
use Rattle.page_source.specs.Sample.{colour, tint_at, sample_tints, sample_plane, sample_parts, sample_zone, normal_ink, cyan_tints, magenta_tints, yellow_tints, black_tints}

all_none : {X : Type 0} (P : X → Type 0) → All P []
all_none P = λ k d within. absurd (omega arith)

all_one : {X : Type 0} (P : X → Type 0) (x : X) → P x → All P (x ∷ [])
all_one P x here = All-cons P x [] here (all_none P)

all_four : {X : Type 0} (P : X → Type 0) (a b c d : X) → P a → P b → P c → P d → All P (a ∷ b ∷ c ∷ d ∷ [])
all_four P a b c d p q r s = All-cons P a (b ∷ c ∷ d ∷ []) p (All-cons P b (c ∷ d ∷ []) q (All-cons P c (d ∷ []) r (all_one P d s)))

length-list_below : (f : ℕ → ℕ) (n : ℕ) → length (list_below f n) ≡ n
length-list_below f zero = refl
length-list_below f (suc n) = length-append (list_below f n) (f n ∷ []) ∙ omega (arith, length-list_below f n)

All-list_below : (f : ℕ → ℕ) (most n : ℕ) → ((k : ℕ) → f k ≤ most) → All (λ t. t ≤ most) (list_below f n)
All-list_below f most zero below = λ k d within. absurd (omega arith)
All-list_below f most (suc n) below = All-append (λ t. t ≤ most) (list_below f n) (f n ∷ []) (All-list_below f most n below) (all_one (λ t. t ≤ most) (f n) (below n))

-- a table of tints that is tested once
fits : (tints : List ℕ) (k : ℕ) → list_all (λ t. leb t 255) tints ≡ true → get_or tints k 0 ≤ 255
fits [] k tested = omega arith
fits (t ∷ ts) zero tested = let parts = and_parts (leb t 255) (list_all (λ t. leb t 255) ts) tested in grind (arith, nat_tests, parts.0)
fits (t ∷ ts) (suc k) tested = fits ts k (and_parts (leb t 255) (list_all (λ t. leb t 255) ts) tested).1

plane_ok : (tints : List ℕ) (number w h : ℕ) → list_all (λ t. leb t 255) tints ≡ true → 1 ≤ w → w ≤ 16384 → 1 ≤ h → h ≤ 16384 → IsPlane (sample_plane tints number w h)
unfolding sample_tints
plane_ok tints number w h tested w1 w2 h1 h2 = record {
  some_width = w1;
  narrow = w2;
  some_height = h1;
  low = h2;
  some_maxval = omega arith;
  maxval_fits = omega arith;
  full = length-list_below (tint_at tints number w) (w * h);
  below = All-list_below (tint_at tints number w) 255 (w * h) (λ k. fits tints (colour number (k % w) (k / w)) tested);
}

ink_ok : (name : List ℕ) (density : ℕ) → 10 ≤ density → density ≤ 100000 → IsInk (normal_ink name density)
ink_ok name density some most = record { some_density = some; most_density = most }

zone_ok : IsZone sample_zone
zone_ok = record {
  params = grind arith;
  path = record { begun = refl; few = omega arith; near = all_none IsVertex };
  limits = record { once = λ i j d before within. absurd (omega arith); steps = all_none (λ (l : Limit). l.step ≤ 10000) };
}

pub is_parts : (number w h : ℕ) → 1 ≤ w → w ≤ 16384 → 1 ≤ h → h ≤ 16384 → IsParts (sample_parts number w h)
is_parts number w h w1 w2 h1 h2 = record {
  some_plates = omega arith;
  few_plates = omega arith;
  one_ink_each = refl;
  some_zones = omega arith;
  few_zones = omega arith;
  planes_in_range = all_four IsPlane (sample_plane cyan_tints number w h) (sample_plane magenta_tints number w h) (sample_plane yellow_tints number w h) (sample_plane black_tints number w h)
      (plane_ok cyan_tints number w h refl w1 w2 h1 h2) (plane_ok magenta_tints number w h refl w1 w2 h1 h2) (plane_ok yellow_tints number w h refl w1 w2 h1 h2) (plane_ok black_tints number w h refl w1 w2 h1 h2);
  inks_in_range = all_four IsInk (normal_ink (codes "Cyan") 6100) (normal_ink (codes "Magenta") 7600) (normal_ink (codes "Yellow") 1600) (normal_ink (codes "Black") 17000)
      (ink_ok (codes "Cyan") 6100 (omega arith) (omega arith)) (ink_ok (codes "Magenta") 7600 (omega arith) (omega arith)) (ink_ok (codes "Yellow") 1600 (omega arith) (omega arith)) (ink_ok (codes "Black") 17000 (omega arith) (omega arith));
  zones_in_range = all_one IsZone sample_zone zone_ok;
  zone_0 = refl;
  few_vertices = omega arith;
  fine = omega arith;
  resolved = λ none. absurd (omega arith);
}
