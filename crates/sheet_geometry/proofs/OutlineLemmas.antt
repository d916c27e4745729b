-- What is judged of a sheet does not look at its tints.
use Rattle.std.proofs.Common.{◌≡◌, ◌⊎◌, ℕ, zero, suc, ◌*◌, ◌<◌, ◌≤◌, ◌^◌, ◌||◌, nat_lt, List, [], ◌∷◌, length, map, get_or, IsSome, Some, None, refl, sym, ap, ◌∙◌, subst, arith}
use Rattle.std.specs.Prelude.{◌==◌, ◌&&◌, if◌then◌else◌}
use Rattle.std.specs.List.{All, list_any}
use Rattle.std.specs.Option.{option_map}
use Rattle.std.proofs.lemmas.List.{get_or-map, length-map}
use Rattle.lists.specs.Words.{first_some, or_else}
use Rattle.lists.proofs.FirstSome.{both_none, each_none}
use Rattle.page_model.specs.declared.page.PageFault.TheVariants.{MaxvalDiffers, SizeDiffers}
use Rattle.page_model.specs.declared.parts.PageParts.{PageParts}
use Rattle.page_model.specs.declared.parts.Plane.{Plane}
use Rattle.page_model.specs.Columns.{halo}
use Rattle.page_model.specs.Conditions.{Agrees}
use Rattle.page_model.specs.Faults.{difference, too_wide}
use Rattle.page_model.specs.Limits.{most_samples, most_side}
use Rattle.page_model.specs.Page.{height, maxval, path_at, plates, width}
use Rattle.page_model.specs.Planes.{plane_at}
use Rattle.page_model.specs.Reach.{page_reach}
use Rattle.page_model.proofs.FaultLemmas.{agrees_from, near_from}
use Rattle.sheet_geometry.specs.declared.budget.Budget.{Budget}
use Rattle.sheet_geometry.specs.declared.sheet_errors.SheetError.TheVariants.{Far, Fault}
use Rattle.sheet_geometry.specs.Planned.{IsStepOf, workspace, FitRulers, IsPlan, even_workspace}
use Rattle.sheet_geometry.specs.CommonErrors.{cut_fault, far, is_far_by, is_large, parts_fault, sheet_error, uncut}
use Rattle.sheet_geometry.proofs.FarLemmas.{near_from as near_sheet}
use Rattle.sheet_geometry.specs.declared.plan.Plan.{Plan}
use Rattle.sheet_geometry.specs.declared.plan.Plan.TheVariants.{Page, Strips, Windows}
use Rattle.sheet_geometry.specs.declared.plan.Rulers.{Rulers}
use Rattle.sheet_geometry.specs.Law.{OutlineLaw}
use Rattle.sheet_geometry.specs.Outline.{IsFull, IsOutlineSheet, IsOutlineParts, IsOutlinePlane, outline_plane, outline_sheet}
use Rattle.sheet_geometry.specs.Sheets.{IsSheet, IsSheetPlane}
use Rattle.sheet_geometry.specs.Windows.{points_of}
use Rattle.sheet_geometry.proofs.Pages.{all_mapped}
use Rattle.sheet_geometry.specs.WindowSheets.{IsCuttable}

pub outline_from : (outline : PageParts) → IsOutlineParts outline → parts_fault outline ≡ None → IsOutlineSheet outline
outline_from outline parts h =
    let both = both_none (first_some (difference outline) (plates outline)) (first_some (too_wide outline) (length outline.zones)) h in
    record {
      parts = parts;
      agree = λ c l. agrees_from outline c (each_none (difference outline) (plates outline) both.0 c l);
      near = λ z l. near_from outline z (each_none (too_wide outline) (length outline.zones) both.1 z l);
    }

-- plane c of a bare sheet is the one of the sheet without its tints
pub plane_outline : (planes : List Plane) (c : ℕ) → plane_at (map outline_plane planes) c ≡ outline_plane (plane_at planes c)
plane_outline [] c = refl
plane_outline (plane ∷ planes) zero = refl
plane_outline (plane ∷ planes) (suc c) = plane_outline planes c

pub plates_is : (sheet : PageParts) → plates (outline_sheet sheet) ≡ plates sheet
plates_is sheet = length-map sheet.planes outline_plane

pub width_is : (sheet : PageParts) → width (outline_sheet sheet) ≡ width sheet
width_is sheet = ap (λ (p : Plane). p.width) (plane_outline sheet.planes 0)

pub height_is : (sheet : PageParts) → height (outline_sheet sheet) ≡ height sheet
height_is sheet = ap (λ (p : Plane). p.height) (plane_outline sheet.planes 0)

pub maxval_is : (sheet : PageParts) → maxval (outline_sheet sheet) ≡ maxval sheet
maxval_is sheet = ap (λ (p : Plane). p.maxval) (plane_outline sheet.planes 0)

difference_is : (sheet : PageParts) (c : ℕ) → difference (outline_sheet sheet) c ≡ difference sheet c
difference_is sheet c = λ i.
    (let plane = plane_outline sheet.planes c i in
    if (plane.width == width_is sheet i) && (plane.height == height_is sheet i)
    then (if plane.maxval == maxval_is sheet i then None else Some (MaxvalDiffers c))
    else Some (SizeDiffers c))

parts_fault_is : (sheet : PageParts) → parts_fault (outline_sheet sheet) ≡ parts_fault sheet
parts_fault_is sheet = λ i. or_else (first_some (λ c. difference_is sheet c i) (plates_is sheet i)) (first_some (too_wide sheet) (length sheet.zones))

far_is : (sheet : PageParts) (z : ℕ) → far (outline_sheet sheet) z ≡ far sheet z
far_is sheet z = λ i.
    if list_any (is_far_by (points_of sheet.resolution (width_is sheet i)) (points_of sheet.resolution (height_is sheet i))) (path_at sheet z)
    then Some (Far z) else None

cut_fault_is : (sheet : PageParts) → cut_fault (outline_sheet sheet) ≡ cut_fault sheet
cut_fault_is sheet = λ i. or_else (first_some (λ z. far_is sheet z i) (length sheet.zones)) (uncut sheet)

is_large_is : (sheet : PageParts) → is_large (outline_sheet sheet) ≡ is_large sheet
is_large_is sheet = λ i. nat_lt most_side (width_is sheet i) || (nat_lt most_side (height_is sheet i)
    || nat_lt most_samples (width_is sheet i * height_is sheet i * plates_is sheet i))

error_is : (sheet : PageParts) → sheet_error (outline_sheet sheet) ≡ sheet_error sheet
error_is sheet = λ i. or_else (option_map Fault (parts_fault_is sheet i)) (if is_large_is sheet i then cut_fault_is sheet i else None)

reach_is : (sheet : PageParts) → page_reach (outline_sheet sheet) ≡ page_reach sheet
unfolding page_reach
reach_is sheet = refl

few_is : (sheet : PageParts) (budget : Budget) (rulers : Rulers) → (rulers.across.most ≡ workspace rulers.across) ⊎ (rulers.across.most * rulers.down.most * plates (outline_sheet sheet) ≤ budget.samples) → (rulers.across.most ≡ workspace rulers.across) ⊎ (rulers.across.most * rulers.down.most * plates sheet ≤ budget.samples)
few_is sheet budget rulers few = subst (λ (n : ℕ). (rulers.across.most ≡ workspace rulers.across) ⊎ (rulers.across.most * rulers.down.most * n ≤ budget.samples)) (plates_is sheet) few

step_is : (sheet : PageParts) (step : ℕ) → IsStepOf (outline_sheet sheet) step → IsStepOf sheet step
step_is sheet step is = record { some = is.some; alone = is.alone; exact = is.exact; least = is.least }

rulers_fit : (halo : ℕ) (sheet : PageParts) (budget : Budget) (least : ℕ) (rulers : Rulers) → FitRulers halo (outline_sheet sheet) budget least rulers → FitRulers halo sheet budget least rulers
rulers_fit halo sheet budget least rulers fit = record {
  fit = record {
    wide = fit.fit.wide ∙ width_is sheet;
    tall = fit.fit.tall ∙ height_is sheet;
    halo_across = fit.fit.halo_across;
    halo_down = fit.fit.halo_down;
    from_left = fit.fit.from_left;
    from_bottom = fit.fit.from_bottom;
    step_across = fit.fit.step_across;
    step_down = fit.fit.step_down;
  };
  small = record {
    narrow = fit.small.narrow;
    low = fit.small.low;
    few_samples = subst (λ (n : ℕ). rulers.across.most * rulers.down.most * n ≤ 160000000) (plates_is sheet) fit.small.few_samples;
  };
  step_across = step_is sheet rulers.across.step fit.step_across;
  step_down = step_is sheet rulers.down.step fit.step_down;
  columns = fit.columns;
  rows = fit.rows;
  high = fit.high;
  low = fit.low;
  few_samples = few_is sheet budget rulers fit.few_samples;
}

plan_is : (halo : ℕ) (sheet : PageParts) (budget : Budget) (plan : Plan) → IsPlan halo (outline_sheet sheet) budget plan → IsPlan halo sheet budget plan
plan_is halo sheet budget (Strips rulers) is = (sym (cut_fault_is sheet) ∙ is.0, rulers_fit halo sheet budget (even_workspace rulers.down) rulers is.1, is.2)
plan_is halo sheet budget (Windows rulers) is = (sym (cut_fault_is sheet) ∙ is.0, rulers_fit halo sheet budget (workspace rulers.down) rulers is.1, subst (λ (n : ℕ). 160000000 < workspace rulers.across * even_workspace rulers.down * n) (plates_is sheet) is.2)
plan_is halo sheet budget Page is = (subst IsSome (cut_fault_is sheet) is.0, sym (is_large_is sheet) ∙ is.1)

outline_plane_ok : (plane : Plane) → IsSheetPlane plane → IsOutlinePlane (outline_plane plane)
outline_plane_ok plane is = record {
  some_width = is.some_width;
  some_height = is.some_height;
  some_maxval = is.some_maxval;
  maxval_fits = is.maxval_fits;
}

agrees_outline : (sheet : PageParts) (c : ℕ) → Agrees sheet c → Agrees (outline_sheet sheet) c
agrees_outline sheet c a = record {
  wide = ap (λ (p : Plane). p.width) (plane_outline sheet.planes c) ∙ a.wide ∙ sym (width_is sheet);
  tall = ap (λ (p : Plane). p.height) (plane_outline sheet.planes c) ∙ a.tall ∙ sym (height_is sheet);
  deep = ap (λ (p : Plane). p.maxval) (plane_outline sheet.planes c) ∙ a.deep ∙ sym (maxval_is sheet);
}

agrees_full : (sheet : PageParts) (c : ℕ) → Agrees (outline_sheet sheet) c → Agrees sheet c
agrees_full sheet c a = record {
  wide = sym (ap (λ (p : Plane). p.width) (plane_outline sheet.planes c)) ∙ a.wide ∙ width_is sheet;
  tall = sym (ap (λ (p : Plane). p.height) (plane_outline sheet.planes c)) ∙ a.tall ∙ height_is sheet;
  deep = sym (ap (λ (p : Plane). p.maxval) (plane_outline sheet.planes c)) ∙ a.deep ∙ maxval_is sheet;
}

outline_is : (sheet : PageParts) → IsSheet sheet → IsOutlineSheet (outline_sheet sheet)
outline_is sheet is = record {
  parts = record {
    some_plates = omega (arith, plates_is sheet, is.parts.some_plates);
    few_plates = omega (arith, plates_is sheet, is.parts.few_plates);
    one_ink_each = is.parts.one_ink_each ∙ sym (plates_is sheet);
    some_zones = is.parts.some_zones;
    few_zones = is.parts.few_zones;
    planes_in_range = all_mapped IsSheetPlane IsOutlinePlane outline_plane sheet.planes outline_plane_ok is.parts.planes_in_range;
    inks_in_range = is.parts.inks_in_range;
    zones_in_range = is.parts.zones_in_range;
    zone_0 = is.parts.zone_0;
    few_vertices = is.parts.few_vertices;
    fine = is.parts.fine;
    resolved = is.parts.resolved;
  };
  agree = λ c l. agrees_outline sheet c (is.agree c (omega (arith, plates_is sheet, l)));
  near = is.near;
}

-- what holds of a plane without its tints holds of the bare planes
outline_at : (planes : List Plane) (k : ℕ) (d : Plane) → k < length planes → All IsOutlinePlane (map outline_plane planes) → IsOutlinePlane (outline_plane (get_or planes k d))
outline_at planes k d l all = subst IsOutlinePlane (get_or-map outline_plane planes k d d l) (all k d (omega (arith, length-map planes outline_plane, l)))

sheet_plane : (plane : Plane) → IsOutlinePlane (outline_plane plane) → IsFull plane → IsSheetPlane plane
sheet_plane plane is full = record {
  some_width = is.some_width;
  some_height = is.some_height;
  some_maxval = is.some_maxval;
  maxval_fits = is.maxval_fits;
  full = full.full;
  below = full.below;
}

pub full_is : (sheet : PageParts) → IsOutlineSheet (outline_sheet sheet) → All IsFull sheet.planes → IsSheet sheet
full_is sheet is full = record {
  parts = record {
    some_plates = omega (arith, plates_is sheet, is.parts.some_plates);
    few_plates = omega (arith, plates_is sheet, is.parts.few_plates);
    one_ink_each = is.parts.one_ink_each ∙ plates_is sheet;
    some_zones = is.parts.some_zones;
    few_zones = is.parts.few_zones;
    planes_in_range = λ k d l. sheet_plane (get_or sheet.planes k d) (outline_at sheet.planes k d l is.parts.planes_in_range) (full k d l);
    inks_in_range = is.parts.inks_in_range;
    zones_in_range = is.parts.zones_in_range;
    zone_0 = is.parts.zone_0;
    few_vertices = is.parts.few_vertices;
    fine = is.parts.fine;
    resolved = is.parts.resolved;
  };
  agree = λ c l. agrees_full sheet c (is.agree c (omega (arith, plates_is sheet, l)));
  near = is.near;
}

pub cuttable_is : (sheet : PageParts) → IsSheet sheet → cut_fault sheet ≡ None → width sheet < 2 ^ 30 → height sheet < 2 ^ 30 → IsCuttable sheet
cuttable_is sheet is cut narrow low = record {
  ranges = is;
  near = near_sheet sheet (both_none (first_some (far sheet) (length sheet.zones)) (uncut sheet) cut).0;
  narrow = narrow;
  low = low;
}

pub law_of : (sheet : PageParts) → OutlineLaw sheet
law_of sheet = record {
  plates = plates_is sheet;
  width = width_is sheet;
  height = height_is sheet;
  maxval = maxval_is sheet;
  parts_fault = parts_fault_is sheet;
  cut_fault = cut_fault_is sheet;
  is_large = is_large_is sheet;
  same_error = error_is sheet;
  reach = reach_is sheet;
  plan = λ halo budget plan is. plan_is halo sheet budget plan is;
  outline = λ is. outline_is sheet is;
}
