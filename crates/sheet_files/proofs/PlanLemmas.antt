-- The bare of a sheet by the headers of its plates.
use Rattle.std.proofs.Common.{◌≡◌, ℕ, ◌<◌, ◌≤◌, ◌^◌, List, [], ◌∷◌, length, map, get_or, Option, Some, None, Result, Err, refl, sym, ap, ◌∙◌, subst, arith}
use Rattle.std.proofs.lemmas.List.{length-map}
use Rattle.std.proofs.lemmas.List.Elements.{All-map}
use Rattle.job_reader.specs.declared.job.Job.{Job}
use Rattle.job_reader.specs.InRange.{IsJob}
use Rattle.page_files.specs.Assembly.{assembled, ink_of, parts_of_planes, without_details, zone_for}
use Rattle.page_files.proofs.AssemblyLemmas.{first_zone, ink_ok, sum_by-zones, zone_ok}
use Rattle.page_model.specs.declared.parts.PageParts.{PageParts}
use Rattle.page_model.specs.declared.parts.Plane.{Plane}
use Rattle.page_model.specs.declared.parts.Zone.{Zone}
use Rattle.page_model.specs.Conditions.{IsInk, IsZone}
use Rattle.page_model.specs.Page.{plates}
use Rattle.page_model.specs.Planes.{no_plane}
use Rattle.pgm_plates.specs.declared.bounds.Bounds.TheVariants.{Sheet}
use Rattle.pgm_plates.specs.declared.header.Header.{Header}
use Rattle.pgm_plates.specs.declared.plate.Plate.{Plate}
use Rattle.pgm_plates.specs.Planes.{plane_of}
use Rattle.pgm_plates.specs.Rows.{IsWithin}
use Rattle.common_errors.specs.declared.common.CommonError.TheVariants.{NoDetails}
use Rattle.sheet_geometry.specs.Areas.{traps}
use Rattle.sheet_geometry.specs.declared.budget.Budget.{Budget}
use Rattle.sheet_geometry.specs.declared.sheet_errors.SheetError.{SheetError}
use Rattle.sheet_geometry.specs.CommonErrors.{sheet_error}
use Rattle.sheet_files.specs.declared.planning.PlannedSheet.{PlannedSheet}
use Rattle.sheet_files.specs.declared.error.TrapsheetError.{TrapsheetError}
use Rattle.sheet_files.specs.declared.error.TrapsheetError.TheVariants.{Common, OfSheet}
use Rattle.sheet_files.specs.Inputs.{detailed, judged, sheet_of}
use Rattle.sheet_files.specs.Planning.{CanPlan, CanPlanPlanes, HaveHeaders, MakesWhole, PlansParts, PlansSheet, header_of, plane_for, outline_for}
use Rattle.sheet_files.specs.SheetFiles.{CanAssembleSheet}
use Rattle.sheet_files.proofs.SheetLemmas.{can_cut, is_accepted, is_sheet_parts}
use Rattle.sheet_geometry.specs.Planned.{IsPlanFor}
use Rattle.sheet_geometry.specs.Outline.{IsOutlineSheet, IsOutlineParts, IsOutlinePlane, outline_plane, outline_sheet}
use Rattle.sheet_geometry.proofs.OutlineLemmas.{law_of}

plane_ok : (header : Header) → IsWithin Sheet header → IsOutlinePlane (plane_for header)
plane_ok header is = record {
  some_width = is.width.0;
  some_height = is.height.0;
  some_maxval = is.positive;
  maxval_fits = is.maxval;
}

-- planes of headers that can be planned
pub can_plan : (headers : List Header) (planes : List Plane) (names : List (List ℕ)) → CanPlan headers names → planes ≡ map plane_for headers → CanPlanPlanes planes names
can_plan headers planes names can made = subst (λ (ps : List Plane). CanPlanPlanes ps names) (sym made) (record {
  some = omega (arith, length-map headers plane_for, can.some);
  few = omega (arith, length-map headers plane_for, can.few);
  named = can.named ∙ sym (length-map headers plane_for);
  in_range = All-map IsOutlinePlane plane_for headers (λ k d within. plane_ok (get_or headers k d) (can.in_range k d within));
  narrow = All-map (λ (plane : Plane). plane.width ≤ 262144) plane_for headers (λ k d within. (can.in_range k d within).width.1);
  low = All-map (λ (plane : Plane). plane.height ≤ 262144) plane_for headers (λ k d within. (can.in_range k d within).height.1);
})

pub is_outline_parts : (job : Job) (planes : List Plane) (names : List (List ℕ)) → IsJob job → CanPlanPlanes planes names → IsOutlineParts (parts_of_planes job planes names)
is_outline_parts job planes names is can = record {
  some_plates = can.some;
  few_plates = can.few;
  one_ink_each = length-map names (ink_of job.details) ∙ can.named;
  some_zones = omega (arith, length-map job.zones (zone_for names), is.some_zones);
  few_zones = omega (arith, length-map job.zones (zone_for names), is.few_zones);
  planes_in_range = can.in_range;
  inks_in_range = All-map IsInk (ink_of job.details) names (λ k d within. ink_ok job.details (get_or names k d) is.details);
  zones_in_range = All-map IsZone (zone_for names) job.zones (λ k d within. zone_ok names (get_or job.zones k d) (is.zones k d within));
  zone_0 = ap (λ (z : Zone). z.path) (first_zone names job.zones is.some_zones) ∙ is.zone_0;
  few_vertices = subst (λ (n : ℕ). n ≤ 16384) (sym (sum_by-zones names job.zones)) is.few_vertices;
  fine = is.fine;
  resolved = λ none.
      let alone = is.resolved none in
      (length-map job.zones (zone_for names) ∙ alone.0, ap (λ (z : Zone). z.params.enabled) (first_zone names job.zones is.some_zones) ∙ alone.1);
}

-- its sides are in range
pub narrow_is : (planes : List Plane) (names : List (List ℕ)) → CanPlanPlanes planes names → (get_or planes 0 no_plane).width < 2 ^ 30
narrow_is planes names can = (let l = can.narrow 0 no_plane (let some = can.some in omega arith) in omega (arith, l))

pub low_is : (planes : List Plane) (names : List (List ℕ)) → CanPlanPlanes planes names → (get_or planes 0 no_plane).height < 2 ^ 30
low_is planes names can = (let l = can.low 0 no_plane (let some = can.some in omega arith) in omega (arith, l))

-- planes of plates without their tints are those of their headers
planes_outline : (plates : List Plate) → map outline_plane (map plane_of plates) ≡ map plane_for (map header_of plates)
planes_outline [] = refl
planes_outline (plate ∷ plates) = ap (λ (planes : List Plane). outline_plane (plane_of plate) ∷ planes) (planes_outline plates)

headers_outline : (headers : List Header) → map outline_plane (map plane_for headers) ≡ map plane_for headers
headers_outline [] = refl
headers_outline (header ∷ headers) = ap (λ (planes : List Plane). plane_for header ∷ planes) (headers_outline headers)

outline_made : (job : Job) (plates : List Plate) (headers : List Header) (names : List (List ℕ)) → map header_of plates ≡ headers → outline_sheet (assembled job plates names) ≡ outline_for job headers names
outline_made job plates headers names same = ap (λ (planes : List Plane). parts_of_planes job planes names) (planes_outline plates ∙ ap (map plane_for) same)

module _ (job : Job) (headers : List Header) (names : List (List ℕ)) (is : IsJob job) (can : CanPlan headers names) (none : without_details job names ≡ None) where
  can_assemble : (plates : List Plate) → HaveHeaders plates headers → CanAssembleSheet plates names
  can_assemble plates have =
      let count : length plates ≡ length headers = sym (length-map plates header_of) ∙ ap length have.same in
      record {
        some = omega (arith, count, can.some);
        few = omega (arith, count, can.few);
        named = can.named ∙ sym count;
        in_range = have.in_range;
      }

  error_made : (plates : List Plate) → HaveHeaders plates headers → sheet_error (assembled job plates names) ≡ sheet_error (outline_for job headers names)
  error_made plates have = sym (law_of (assembled job plates names)).same_error ∙ ap sheet_error (outline_made job plates headers names have.same)

  of_error : (plates : List Plate) (o : Option SheetError) → sheet_error (assembled job plates names) ≡ o → sheet_of job plates names ≡ judged o (assembled job plates names)
  of_error plates o is = ap (λ (without : Option ℕ). detailed without (assembled job plates names)) none ∙ ap (λ (p : Option SheetError). judged p (assembled job plates names)) is

  makes_whole : (plates : List Plate) → HaveHeaders plates headers → sheet_error (outline_for job headers names) ≡ None → MakesWhole job plates names (outline_for job headers names)
  makes_whole plates have accepted =
      let kept = error_made plates have ∙ accepted in
      record {
        made = of_error plates None kept;
        sheet = is_accepted (assembled job plates names) (is_sheet_parts job (map plane_of plates) names is (can_cut plates (map plane_of plates) names (can_assemble plates have) refl)) kept;
        same = outline_made job plates headers names have.same;
      }

  outline_again : outline_sheet (outline_for job headers names) ≡ outline_for job headers names
  outline_again = ap (λ (planes : List Plane). parts_of_planes job planes names) (headers_outline headers)

  pub plans_parts : (budget : Budget) (result : Result PlannedSheet TrapsheetError) → PlansParts budget (outline_for job headers names) result → PlansSheet budget job headers names result
  plans_parts budget result (PlansParts.planned sheet ok same outline accepted plan) =
      PlansSheet.planned sheet ok (subst IsOutlineSheet (sym same) outline) (subst (λ (s : PageParts). outline_sheet s ≡ s) (sym same) outline_again) (ap sheet_error same ∙ accepted) (ap plates same ∙ length-map headers plane_for) (subst (λ (s : PageParts). IsPlanFor traps s budget sheet.plan) (sym same) plan)
      (λ plates have. subst (λ (s : PageParts). MakesWhole job plates names s) (sym same) (makes_whole plates have accepted))
  plans_parts budget result (PlansParts.refused common_error err fault) =
      PlansSheet.refused (OfSheet common_error) err (λ plates have. of_error plates (Some common_error) (error_made plates have ∙ fault))
  plans_parts budget result (PlansParts.no_memory err) = PlansSheet.no_memory err

-- no plate lacks its details
pub plans_with : (budget : Budget) (job : Job) (headers : List Header) (planes : List Plane) (names : List (List ℕ)) (result : Result PlannedSheet TrapsheetError) → IsJob job → CanPlan headers names → None ≡ without_details job names → planes ≡ map plane_for headers → PlansParts budget (parts_of_planes job planes names) result → PlansSheet budget job headers names result
plans_with budget job headers planes names result is can none made plans =
    plans_parts job headers names is can (sym none) budget result (subst (λ (ps : List Plane). PlansParts budget (parts_of_planes job ps names) result) made plans)

-- a plate lacks its details
pub plans_without : (budget : Budget) (job : Job) (headers : List Header) (names : List (List ℕ)) (plate : ℕ) → Some plate ≡ without_details job names → PlansSheet budget job headers names (Err (Common (NoDetails plate)))
plans_without budget job headers names plate is = PlansSheet.refused (Common (NoDetails plate)) refl (λ plates have. ap (λ (o : Option ℕ). detailed o (assembled job plates names)) (sym is))
