-- A job whose paths are moved is in range, where no vertex is too far.
use Rattle.std.proofs.Common.{◌≡◌, ℕ, Bool, true, false, cond, nat_lt, ltb, zero, suc, ◌+◌, ◌<◌, ◌≤◌, List, [], ◌∷◌, length, Some, None, refl, sym, ap, ◌∙◌, subst, arith}
use Rattle.std.specs.Prelude.{map, nat_abs, slice_index_or, sum_by}
use Rattle.std.specs.List.{All, list_any, position_or_len}
use Rattle.std.proofs.Math.ListN.{get_or-map as mapped_at}
use Rattle.std.proofs.lemmas.Bool.{ltb-false, or_parts}
use Rattle.std.proofs.lemmas.List.{get_or-map, length-map}
use Rattle.std.proofs.lemmas.List.Sums.{fails_before_first, sum_by-cons}
use Rattle.job_reader.specs.declared.job.Job.{Job}
use Rattle.job_reader.specs.InRange.{IsJob}
use Rattle.page_model.specs.declared.parts.Ink.{Ink}
use Rattle.page_model.specs.declared.parts.Vertex.{Vertex}
use Rattle.page_model.specs.declared.parts.Zone.{Zone}
use Rattle.page_model.specs.Conditions.{IsVertex, IsZone, begins}
use Rattle.page_model.specs.Limits.{most_coordinate}
use Rattle.page_model.specs.Page.{no_zone}
use Rattle.sheet_geometry.specs.Windows.{moved_vertex, moved_zone, points_of}
use Rattle.trap_c.specs.declared.layout.Layout.{Layout}
use Rattle.trap_c.specs.declared.place.Place.{Place}
use Rattle.trap_c.specs.Places.{rows_after}
use Rattle.trap_c.specs.Windows.{IsMovedJob, first_far, is_far, moved_job}

-- what no place is told of passes nowhere
none_passes : {X : Type 0} (p : X → Bool) (xs : List X) (b : Bool) → ltb (position_or_len p xs) (length xs) ≡ b → cond b (Some (position_or_len p xs)) None ≡ None → (k : ℕ) (d : X) → k < length xs → p (slice_index_or xs k d) ≡ false
none_passes p xs true test e k d l = absurd (cc)
none_passes p xs false test e k d l =
    let all : length xs ≤ position_or_len p xs = ltb-false _ _ test in
    fails_before_first p xs k d (omega (arith, all, l))

none_of : (p : Vertex → Bool) (xs : List Vertex) → list_any p xs ≡ false → (k : ℕ) (d : Vertex) → k < length xs → p (slice_index_or xs k d) ≡ false
none_of p [] h k d l = absurd (omega (arith, l))
none_of p (x ∷ xs) h zero d l = (or_parts (p x) (list_any p xs) h).0
none_of p (x ∷ xs) h (suc k) d l = none_of p xs (or_parts (p x) (list_any p xs) h).1 k d (omega (arith, l))

near_vertex : (v : Vertex) → is_far v ≡ false → IsVertex v
near_vertex v h =
    let both = or_parts (nat_lt most_coordinate (nat_abs v.x)) (nat_lt most_coordinate (nat_abs v.y)) h in
    record { x_near = ltb-false _ _ both.0; y_near = ltb-false _ _ both.1 }

near_zone : (zones : List Zone) → first_far zones ≡ None → (k : ℕ) (d : Zone) → k < length zones → All IsVertex (slice_index_or zones k d).path
near_zone zones e k d l =
    let test : Zone → Bool = λ (zone : Zone). list_any is_far zone.path in
    let none : list_any is_far (slice_index_or zones k d).path ≡ false = none_passes test zones (ltb (position_or_len test zones) (length zones)) refl e k d l in
    λ j v within. near_vertex _ (none_of is_far (slice_index_or zones k d).path none j v within)

begins-moved : (right up : ℕ) (path : List Vertex) → begins (map (moved_vertex right up) path) ≡ begins path
begins-moved right up [] = refl
begins-moved right up (v ∷ vs) = refl

vertices-moved : (right up : ℕ) (zones : List Zone) → sum_by (λ (z : Zone). length z.path) (map (moved_zone right up) zones) ≡ sum_by (λ (z : Zone). length z.path) zones
vertices-moved right up [] = refl
vertices-moved right up (z ∷ zs) =
    let a = sum_by-cons (λ (zone : Zone). length zone.path) (moved_zone right up z) (map (moved_zone right up) zs) in
    let b = sum_by-cons (λ (zone : Zone). length zone.path) z zs in
    let c = length-map z.path (moved_vertex right up) in
    a ∙ (λ i. c i + vertices-moved right up zs i) ∙ sym b

zone_moved : (right up : ℕ) (zone : Zone) → IsZone zone → All IsVertex (moved_zone right up zone).path → IsZone (moved_zone right up zone)
zone_moved right up zone is near = record {
  params = is.params;
  path = record {
    begun = begins-moved right up zone.path ∙ is.path.begun;
    few = (let e = length-map zone.path (moved_vertex right up) in let few = is.path.few in omega (arith, e, few));
    near = near;
  };
  limits = is.limits;
}

zones_moved : (right up : ℕ) (zones : List Zone) → All IsZone zones → first_far (map (moved_zone right up) zones) ≡ None → All IsZone (map (moved_zone right up) zones)
zones_moved right up zones all e = λ k d l.
    let here : k < length zones = omega (arith, l, length-map zones (moved_zone right up)) in
    let is : slice_index_or (map (moved_zone right up) zones) k d ≡ moved_zone right up (slice_index_or zones k no_zone) = get_or-map (moved_zone right up) zones k no_zone d here in
    subst IsZone (sym is) (zone_moved right up (slice_index_or zones k no_zone) (all k no_zone here) (subst (λ (z : Zone). All IsVertex z.path) is (near_zone (map (moved_zone right up) zones) e k d l)))

pub moved_in_range : (layout : Layout) (place : Place) (job : Job) → IsJob job → IsMovedJob (moved_job layout place job)
moved_in_range layout place job is =
    let right = points_of job.resolution place.left in
    let up = points_of job.resolution (rows_after layout place) in
    let many : length (map (moved_zone right up) job.zones) ≡ length job.zones = length-map job.zones (moved_zone right up) in
    let first = mapped_at (moved_zone right up) job.zones 0 no_zone in
    record {
      few_zones = omega (arith, many, is.few_zones);
      in_range = λ e. record {
        some_zones = omega (arith, many, is.some_zones);
        few_zones = omega (arith, many, is.few_zones);
        zones = zones_moved right up job.zones is.zones e;
        zone_0 = ap (λ (z : Zone). z.path) first ∙ ap (map (moved_vertex right up)) is.zone_0;
        few_vertices = (let same = vertices-moved right up job.zones in let few = is.few_vertices in omega (arith, same, few));
        fine = is.fine;
        resolved = λ none. (let r = is.resolved none in (many ∙ r.0, ap (λ (z : Zone). z.params.enabled) first ∙ r.1));
        details = is.details;
      };
    }

-- zones that are moved by nothing are the same
same_vertex : (v : Vertex) → moved_vertex 0 0 v ≡ v
same_vertex v =
    let across : (moved_vertex 0 0 v).x ≡ v.x = grind arith in
    let up : (moved_vertex 0 0 v).y ≡ v.y = grind arith in
    λ i. record { x = across i; y = up i; starts = v.starts }

same_path : (path : List Vertex) → map (moved_vertex 0 0) path ≡ path
same_path [] = refl
same_path (v ∷ vs) = λ i. same_vertex v i ∷ same_path vs i

same_zone : (zone : Zone) → moved_zone 0 0 zone ≡ zone
same_zone zone = λ i. record { params = zone.params; path = same_path zone.path i; limits = zone.limits }

pub same_zones : (zones : List Zone) → map (moved_zone 0 0) zones ≡ zones
same_zones [] = refl
same_zones (z ∷ zs) = λ i. same_zone z i ∷ same_zones zs i

abbrev made_job : ℕ → List Zone → List Ink → Job
made_job resolution zones details = record { resolution = resolution; zones = zones; details = details }

-- so a job of them is the same
pub same_job : (job : Job) (zones : List Zone) (details : List Ink) → zones ≡ map (moved_zone 0 0) job.zones → details ≡ job.details → made_job job.resolution zones details ≡ job
same_job job zones details z d = λ i. made_job job.resolution ((z ∙ same_zones job.zones) i) (d i)
