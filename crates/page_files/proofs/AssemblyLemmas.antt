-- The parts that a job and plates make are those of a page.
use Rattle.std.proofs.Common.{◌≡◌, ℕ, ◌≤◌, ◌-◌, List, [], ◌∷◌, length, map, get_or, All, Option, Some, None, refl, sym, ap, ◌∙◌, subst, arith}
use Rattle.std.specs.List.{list_any, sum_by, sum}
use Rattle.std.specs.Str.{bytes_eq}
use Rattle.std.proofs.lemmas.List.{length-map}
use Rattle.std.proofs.lemmas.List.Elements.{All-map, All-filter}
use Rattle.std.proofs.lemmas.List.Folds.{find_at}
use Rattle.std.proofs.lemmas.List.Sums.{sum-map}
use Rattle.std.proofs.lemmas.Option.{same_Some}
use Rattle.std.specs.Prelude.{slice_get, zero, suc}
use Rattle.std.proofs.lemmas.List.Kept.{AllPairs-filter}
use Rattle.job_reader.specs.declared.job.Job.{Job}
use Rattle.page_model.specs.declared.parts.Ink.{Ink}
use Rattle.page_model.specs.declared.parts.Limit.{Limit}
use Rattle.page_model.specs.declared.parts.Plane.{Plane}
use Rattle.page_model.specs.declared.parts.Zone.{Zone}
use Rattle.page_model.specs.Conditions.{IsParts, IsPlane, IsInk, IsZone}
use Rattle.page_model.specs.Page.{no_zone}
use Rattle.pgm_plates.specs.declared.plate.Plate.{Plate}
use Rattle.pgm_plates.specs.Planes.{plane_of}
use Rattle.pgm_plates.specs.Plates.{IsPlate}
use Rattle.job_reader.specs.InRange.{IsJob}
use Rattle.page_files.specs.Assembly.{CanAssemble, CanAssemblePlanes, parts_of_planes, detail_of, ink_of, ink_or, plain_ink, zone_for}

-- the plane of a plate in range is in range
pub plane_ok : (plate : Plate) → IsPlate plate → IsPlane (plane_of plate)
plane_ok plate is = record {
  some_width = is.width.0;
  narrow = is.width.1;
  some_height = is.height.0;
  low = is.height.1;
  some_maxval = is.positive;
  maxval_fits = is.maxval;
  full = length-map plate.samples (λ s. plate.maxval - s) ∙ is.count;
  below = All-map (λ t. t ≤ plate.maxval) (λ s. plate.maxval - s) plate.samples (λ k d within. omega arith);
}

-- what is found in a list is one of its elements
picked : (inks : List Ink) (k : ℕ) (ink : Ink) → All IsInk inks → slice_get inks k ≡ Some ink → IsInk ink
picked [] k ink all is = absurd (cc)
picked (first ∷ rest) zero ink all is = subst IsInk (same_Some first ink is) (all 0 first (omega arith))
picked (first ∷ rest) (suc k) ink all is = picked rest k ink (λ i d within. all (suc i) d (omega arith)) is

found_ok : (details : List Ink) (name : List ℕ) → All IsInk details → (o : Option Ink) → detail_of details name ≡ o → IsInk (ink_or o (plain_ink name))
found_ok details name all None is = record { some_density = omega arith; most_density = omega arith }
found_ok details name all (Some ink) is = picked details _ ink all (sym (find_at (λ (i : Ink). bytes_eq i.name name) details) ∙ is)

pub ink_ok : (details : List Ink) (name : List ℕ) → All IsInk details → IsInk (ink_of details name)
ink_ok details name all = found_ok details name all (detail_of details name) refl

pub zone_ok : (names : List (List ℕ)) (zone : Zone) → IsZone zone → IsZone (zone_for names zone)
zone_ok names zone is = record {
  params = is.params;
  path = is.path;
  limits = record {
    once = AllPairs-filter (λ (a : Limit) (b : Limit). a.name ≡ b.name → ⊥) (λ (l : Limit). list_any (λ n. bytes_eq n l.name) names) zone.limits is.limits.once;
    steps = All-filter (λ (l : Limit). list_any (λ n. bytes_eq n l.name) names) (λ (l : Limit). l.step ≤ 10000) zone.limits is.limits.steps;
  };
}

pub first_zone : (names : List (List ℕ)) (zones : List Zone) → 1 ≤ length zones → get_or (map (zone_for names) zones) 0 no_zone ≡ zone_for names (get_or zones 0 no_zone)
first_zone names [] some = absurd (omega arith)
first_zone names (zone ∷ zones) some = refl

same_lengths : (names : List (List ℕ)) (zones : List Zone) → map (λ (z : Zone). length z.path) (map (zone_for names) zones) ≡ map (λ (z : Zone). length z.path) zones
same_lengths names [] = refl
same_lengths names (zone ∷ zones) = ap (λ (ns : List ℕ). length zone.path ∷ ns) (same_lengths names zones)

pub sum_by-zones : (names : List (List ℕ)) (zones : List Zone) → sum_by (λ (z : Zone). length z.path) (map (zone_for names) zones) ≡ sum_by (λ (z : Zone). length z.path) zones
sum_by-zones names zones = sym (sum-map (λ (z : Zone). length z.path) (map (zone_for names) zones)) ∙ ap sum (same_lengths names zones) ∙ sum-map (λ (z : Zone). length z.path) zones

pub is_parts : (job : Job) (planes : List Plane) (names : List (List ℕ)) → IsJob job → CanAssemblePlanes planes names → IsParts (parts_of_planes job planes names)
is_parts job planes names is can = record {
  some_plates = can.some;
  few_plates = can.few;
  one_ink_each = length-map names (ink_of job.details) ∙ can.named;
  some_zones = omega (arith, length-map job.zones (zone_for names), is.some_zones);
  few_zones = omega (arith, length-map job.zones (zone_for names), is.few_zones);
  planes_in_range = can.in_range;
  inks_in_range = All-map IsInk (ink_of job.details) names (λ k d within. ink_ok job.details (get_or names k d) is.details);
  zones_in_range = All-map IsZone (zone_for names) job.zones (λ k d within. zone_ok names (get_or job.zones k d) (is.zones k d within));
  zone_0 = ap (λ (z : Zone). z.path) (first_zone names job.zones is.some_zones) ∙ is.zone_0;
  few_vertices = subst (λ (n : ℕ). n ≤ 16384) (sym (sum_by-zones names job.zones)) is.few_vertices;
  fine = is.fine;
  resolved = λ none.
      let alone = is.resolved none in
      (length-map job.zones (zone_for names) ∙ alone.0, ap (λ (z : Zone). z.params.enabled) (first_zone names job.zones is.some_zones) ∙ alone.1);
}

-- the planes of plates that can be assembled
pub can_planes : (plates : List Plate) (planes : List Plane) (names : List (List ℕ)) → CanAssemble plates names → planes ≡ map plane_of plates → CanAssemblePlanes planes names
can_planes plates planes names can made = subst (λ (ps : List Plane). CanAssemblePlanes ps names) (sym made) (record {
  some = omega (arith, length-map plates plane_of, can.some);
  few = omega (arith, length-map plates plane_of, can.few);
  named = can.named ∙ sym (length-map plates plane_of);
  in_range = All-map IsPlane plane_of plates (λ k d within. plane_ok (get_or plates k d) (can.in_range k d within));
})
