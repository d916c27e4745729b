-- What is written differs from what was read only near edges.
use Rattle.std.proofs.Common.{◌≡◌, ℕ, ◌<◌, List, map, length, Option, Some, None, Ok, refl, sym, ap, subst, arith}
use Rattle.std.specs.Option.{option_map}
use Rattle.job_reader.specs.declared.job.Job.{Job}
use Rattle.page_model.specs.declared.parts.PageParts.{PageParts}
use Rattle.page_model.specs.declared.page.PageFault.{PageFault}
use Rattle.page_model.specs.Conditions.{Agrees}
use Rattle.page_model.specs.Faults.{difference, too_wide}
use Rattle.page_model.specs.Page.{plates}
use Rattle.lists.specs.Words.{first_some}
use Rattle.page_model.proofs.FaultLemmas.{agrees_from}
use Rattle.page_files.specs.Inputs.{plate_at}
use Rattle.page_files.specs.Assembly.{assembled, without_details}
use Rattle.pgm_plates.specs.declared.bounds.Bounds.TheVariants.{Sheet}
use Rattle.pgm_plates.specs.declared.plate.Plate.{Plate as PlateRead}
use Rattle.pgm_plates.specs.Planes.{plane_of}
use Rattle.sheet_geometry.specs.declared.sheet_errors.SheetError.{SheetError}
use Rattle.sheet_geometry.specs.declared.sheet_errors.SheetError.TheVariants.{Fault}
use Rattle.sheet_geometry.specs.CommonErrors.{large_fault, parts_fault, sheet_error}
use Rattle.sheet_files.specs.Inputs.{AreSpelled, StoredBytes, SheetInputs, detailed, judged, sheet_of}
use Rattle.sheet_files.specs.SheetFiles.{IsSheetPlate}
use Rattle.lists.proofs.FirstSome.{both_none, each_none}
use Rattle.page_files.specs.Locality.{ChangesNearEdges}
use Rattle.page_files.proofs.LocalityLemmas.{changes_near}

no_fault : (o : Option PageFault) → option_map Fault o ≡ None → o ≡ None
no_fault None none = refl
no_fault (Some fault) none = absurd (let e : ◌≡◌ {A = Option SheetError} (Some (Fault fault)) None = none in cc)

-- parts without a fault are the sheet that is made
without_fault : (o : Option SheetError) (parts made : PageParts) → judged o parts ≡ Ok made → (parts ≡ made) × (o ≡ None)
without_fault None parts made is = (cc, refl)
without_fault (Some common_error) parts made is = absurd cc

made_of : (o : Option ℕ) (parts made : PageParts) → detailed o parts ≡ Ok made → (parts ≡ made) × (sheet_error parts ≡ None)
made_of None parts made is = without_fault (sheet_error parts) parts made is
made_of (Some plate) parts made is = absurd cc

-- a plate of parts without a fault has the sides and the maxval of the sheet
plate_agrees : (sheet : PageParts) (c : ℕ) → sheet_error sheet ≡ None → c < plates sheet → Agrees sheet c
plate_agrees sheet c is below =
    let parts = no_fault (parts_fault sheet) (both_none (option_map Fault (parts_fault sheet)) (large_fault sheet) is).0 in
    let none = both_none (first_some (difference sheet) (plates sheet)) (first_some (too_wide sheet) (length sheet.zones)) parts in
    agrees_from sheet c (each_none (difference sheet) (plates sheet) none.0 c below)

-- The plates of a sheet's files are in range.
plate_ok : (stored : ℕ → Option (List ℕ)) (count : ℕ) (read : List PlateRead) (c : ℕ) → AreSpelled stored count read → c < length read → IsSheetPlate (plate_at read c)
plate_ok stored count read c spelled below = (spelled.each c (omega (arith, spelled.all))).2.plate_ok

pub changes_near_edges : (stored : StoredBytes) (names : List (List ℕ)) (job : Job) (read : List PlateRead) (made : PageParts) → SheetInputs stored (length names) job read → sheet_of job read names ≡ Ok made → ChangesNearEdges made read
changes_near_edges stored names job read made inputs is =
    let parts = made_of (without_details job names) (assembled job read names) made is in
    let planes : made.planes ≡ map plane_of read = ap (λ (p : PageParts). p.planes) (sym parts.0) in
    let faultless : sheet_error made ≡ None = subst (λ (p : PageParts). sheet_error p ≡ None) parts.0 parts.1 in
    changes_near Sheet made read planes (λ c below. plate_agrees made c faultless below) (λ c known. plate_ok stored.plate (length names) read c inputs.plates_read known)
