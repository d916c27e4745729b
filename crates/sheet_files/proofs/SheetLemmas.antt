-- The parts that a job and plates make are those of a sheet.
use Rattle.std.proofs.Common.{◌≡◌, ℕ, ◌≤◌, List, map, get_or, Option, Some, None, refl, sym, ap, ◌∙◌, subst, arith}
use Rattle.std.specs.Option.{option_map}
use Rattle.std.proofs.lemmas.List.{length-map}
use Rattle.std.proofs.lemmas.List.Elements.{All-map}
use Rattle.lists.proofs.FirstSome.{both_none}
use Rattle.job_reader.specs.declared.job.Job.{Job}
use Rattle.job_reader.specs.InRange.{IsJob}
use Rattle.page_files.specs.Assembly.{ink_of, parts_of_planes, zone_for}
use Rattle.page_files.proofs.AssemblyLemmas.{first_zone, ink_ok, sum_by-zones, zone_ok}
use Rattle.page_model.specs.declared.page.PageFault.{PageFault}
use Rattle.page_model.specs.declared.parts.PageParts.{PageParts}
use Rattle.page_model.specs.declared.parts.Plane.{Plane}
use Rattle.page_model.specs.declared.parts.Zone.{Zone}
use Rattle.page_model.specs.Conditions.{IsInk, IsZone}
use Rattle.pgm_plates.specs.declared.bounds.Bounds.TheVariants.{Sheet}
use Rattle.pgm_plates.specs.declared.plate.Plate.{Plate}
use Rattle.pgm_plates.specs.Planes.{IsPlaneWithin, plane_of}
use Rattle.pgm_plates.proofs.Turned.{plane_within}
use Rattle.sheet_geometry.specs.declared.sheet_errors.SheetError.{SheetError}
use Rattle.sheet_geometry.specs.declared.sheet_errors.SheetError.TheVariants.{Fault}
use Rattle.sheet_geometry.specs.CommonErrors.{large_fault, parts_fault, sheet_error}
use Rattle.sheet_geometry.proofs.FaultLemmas.{sheet_from}
use Rattle.sheet_geometry.specs.Sheets.{IsSheet, IsSheetParts, IsSheetPlane}
use Rattle.sheet_files.specs.SheetFiles.{CanAssembleSheet, CanCutPlanes}

sheet_plane : (plane : Plane) → IsPlaneWithin Sheet plane → IsSheetPlane plane
sheet_plane plane is = record {
  some_width = is.some_width;
  some_height = is.some_height;
  some_maxval = is.some_maxval;
  maxval_fits = is.maxval_fits;
  full = is.full;
  below = is.below;
}

pub is_sheet_parts : (job : Job) (planes : List Plane) (names : List (List ℕ)) → IsJob job → CanCutPlanes planes names → IsSheetParts (parts_of_planes job planes names)
is_sheet_parts job planes names is can = record {
  some_plates = can.some;
  few_plates = can.few;
  one_ink_each = length-map names (ink_of job.details) ∙ can.named;
  some_zones = omega (arith, length-map job.zones (zone_for names), is.some_zones);
  few_zones = omega (arith, length-map job.zones (zone_for names), is.few_zones);
  planes_in_range = λ k d within. sheet_plane (get_or planes k d) (can.in_range k d within);
  inks_in_range = All-map IsInk (ink_of job.details) names (λ k d within. ink_ok job.details (get_or names k d) is.details);
  zones_in_range = All-map IsZone (zone_for names) job.zones (λ k d within. zone_ok names (get_or job.zones k d) (is.zones k d within));
  zone_0 = ap (λ (z : Zone). z.path) (first_zone names job.zones is.some_zones) ∙ is.zone_0;
  few_vertices = subst (λ (n : ℕ). n ≤ 16384) (sym (sum_by-zones names job.zones)) is.few_vertices;
  fine = is.fine;
  resolved = λ none.
      let alone = is.resolved none in
      (length-map job.zones (zone_for names) ∙ alone.0, ap (λ (z : Zone). z.params.enabled) (first_zone names job.zones is.some_zones) ∙ alone.1);
}

-- the planes of plates that can be assembled
pub can_cut : (plates : List Plate) (planes : List Plane) (names : List (List ℕ)) → CanAssembleSheet plates names → planes ≡ map plane_of plates → CanCutPlanes planes names
can_cut plates planes names can made = subst (λ (ps : List Plane). CanCutPlanes ps names) (sym made) (record {
  some = omega (arith, length-map plates plane_of, can.some);
  few = omega (arith, length-map plates plane_of, can.few);
  named = can.named ∙ sym (length-map plates plane_of);
  in_range = All-map (IsPlaneWithin Sheet) plane_of plates (λ k d within. plane_within Sheet (get_or plates k d) (can.in_range k d within));
})

no_fault : (o : Option PageFault) → option_map Fault o ≡ None → o ≡ None
no_fault None none = refl
no_fault (Some fault) none = absurd (let e : ◌≡◌ {A = Option SheetError} (Some (Fault fault)) None = none in cc)

-- parts that are not refused are a sheet
pub is_accepted : (sheet : PageParts) → IsSheetParts sheet → sheet_error sheet ≡ None → IsSheet sheet
is_accepted sheet parts accepted =
    sheet_from sheet parts (no_fault (parts_fault sheet) (both_none (option_map Fault (parts_fault sheet)) (large_fault sheet) accepted).0)
