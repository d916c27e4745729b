-- What is written differs from what was read only near edges.
use Rattle.std.proofs.Common.{◌≡◌, ℕ, ◌<◌, List, map, length, Option, Some, None, Ok, refl, sym, ap, subst, arith}
use Rattle.job_reader.specs.declared.job.Job.{Job}
use Rattle.page_model.specs.declared.parts.PageParts.{PageParts}
use Rattle.page_model.specs.declared.page.PageFault.{PageFault}
use Rattle.page_model.specs.Conditions.{Agrees}
use Rattle.page_model.specs.Faults.{page_fault, difference, too_many, too_wide}
use Rattle.page_model.specs.Page.{plates}
use Rattle.lists.specs.Words.{or_else, first_some}
use Rattle.page_model.proofs.FaultLemmas.{agrees_from}
use Rattle.page_files.specs.Inputs.{Sources, Inputs, one_page, plate_at}
use Rattle.pgm_plates.specs.declared.bounds.Bounds.TheVariants.{Page}
use Rattle.pgm_plates.specs.declared.plate.Plate.{Plate as PlateRead}
use Rattle.pgm_plates.specs.Planes.{plane_of}
use Rattle.pgm_plates.specs.Plates.{IsPlate}
use Rattle.page_files.specs.Assembly.{assembly, assembled, detailed, faulted, without_details}
use Rattle.lists.proofs.FirstSome.{both_none, each_none}
use Rattle.page_files.specs.Locality.{ChangesNearEdges}
use Rattle.page_files.proofs.LocalityLemmas.{changes_near}

-- parts without a fault are the page that is made
without_fault : (o : Option PageFault) (parts made : PageParts) → faulted parts o ≡ Ok made → (parts ≡ made) × (o ≡ None)
without_fault None parts made is = (cc, refl)
without_fault (Some fault) parts made is = absurd cc

made_of : (o : Option ℕ) (parts made : PageParts) → detailed o parts ≡ Ok made → (parts ≡ made) × (page_fault parts ≡ None)
made_of None parts made is = without_fault (page_fault parts) parts made is
made_of (Some plate) parts made is = absurd cc

-- a plate of parts without a fault has the sides and the maxval of the page
plate_agrees : (page : PageParts) (c : ℕ) → page_fault page ≡ None → c < plates page → Agrees page c
plate_agrees page c is below =
    let outer = both_none (or_else (first_some (difference page) (plates page)) (too_many page)) (first_some (too_wide page) (length page.zones)) is in
    let none = both_none (first_some (difference page) (plates page)) (too_many page) outer.0 in
    agrees_from page c (each_none (difference page) (plates page) none.0 c below)

-- The plates of a page's files are in range.
plate_ok : (files : List ℕ → Option (List ℕ)) (source : Sources) (job : Job) (read : List PlateRead) (c : ℕ) → Inputs one_page files source job read → c < length read → IsPlate (plate_at read c)
plate_ok files source job read c inputs below = (inputs.plates_read.each c (omega (arith, inputs.plates_read.all))).2.plate_ok

pub changes_near_edges : (files : List ℕ → Option (List ℕ)) (source : Sources) (job : Job) (read : List PlateRead) (made : PageParts) → Inputs one_page files source job read → assembly job read source.names ≡ Ok made → ChangesNearEdges made read
changes_near_edges files source job read made inputs is =
    let parts = made_of (without_details job source.names) (assembled job read source.names) made is in
    let planes : made.planes ≡ map plane_of read = ap (λ (p : PageParts). p.planes) (sym parts.0) in
    let faultless : page_fault made ≡ None = subst (λ (p : PageParts). page_fault p ≡ None) parts.0 parts.1 in
    changes_near Page made read planes (λ c below. plate_agrees made c faultless below) (λ c known. plate_ok files source job read c inputs known)
