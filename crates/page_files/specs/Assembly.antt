-- The page that a job and plates make.
use Rattle.std.specs.Prelude.{◌≡◌, ℕ, Bool, ◌≤◌, length, List, Option, Some, None, Result, Ok, Err}
use Rattle.std.specs.Prelude.{map, filter, find, is_none, if◌then◌else◌, All}
use Rattle.std.specs.List.{list_any, position}
use Rattle.std.specs.Str.{bytes_eq}
use Rattle.job_reader.specs.declared.job.Job.{Job}
use Rattle.page_model.specs.declared.parts.Ink.{Ink}
use Rattle.page_model.specs.declared.parts.InkKind.TheVariants.{Normal}
use Rattle.page_model.specs.declared.parts.Limit.{Limit}
use Rattle.page_model.specs.declared.page.PageFault.{PageFault}
use Rattle.page_model.specs.declared.parts.PageParts.{PageParts}
use Rattle.page_model.specs.declared.parts.Plane.{Plane}
use Rattle.page_model.specs.declared.parts.Zone.{Zone}
use Rattle.page_model.specs.Conditions.{IsPlane}
use Rattle.page_model.specs.Faults.{page_fault}
use Rattle.pgm_plates.specs.declared.plate.Plate.{Plate}
use Rattle.pgm_plates.specs.Planes.{plane_of}
use Rattle.pgm_plates.specs.Plates.{IsPlate}
use Rattle.common_errors.specs.declared.common.CommonError.{CommonError}
use Rattle.common_errors.specs.declared.common.CommonError.TheVariants.{NoDetails, Page}
use Rattle.page_model.specs.Limits.{most_plates, scale}

-- the details of a colorant's name, if the job has any
abbrev pub detail_of : List Ink → List ℕ → Option Ink
detail_of details name = find (λ (ink : Ink). bytes_eq ink.name name) details

-- a colorant without details: it is used only where no zone is enabled
abbrev pub plain_ink : List ℕ → Ink
plain_ink name = record { name = name; density = scale; kind = Normal }

-- the details, or the plain ink where there are none
abbrev pub ink_or : Option Ink → Ink → Ink
ink_or None plain = plain
ink_or (Some ink) plain = ink

-- the ink of a colorant's name
abbrev pub ink_of : List Ink → List ℕ → Ink
ink_of details name = ink_or (detail_of details name) (plain_ink name)

-- a zone, with the limits of the plates' names alone
abbrev pub zone_for : List (List ℕ) → Zone → Zone
zone_for names zone = record zone
    { limits = filter (λ (l : Limit). list_any (λ n. bytes_eq n l.name) names) zone.limits }

-- the parts of the page of these planes, in the order of the names
abbrev pub parts_of_planes : Job → List Plane → List (List ℕ) → PageParts
parts_of_planes job planes names = record {
  resolution = job.resolution;
  planes = planes;
  inks = map (ink_of job.details) names;
  zones = map (zone_for names) job.zones;
}

-- and of these plates
abbrev pub assembled : Job → List Plate → List (List ℕ) → PageParts
assembled job plates names = parts_of_planes job (map plane_of plates) names

-- whether some zone of the job is enabled
abbrev pub some_enabled : Job → Bool
some_enabled job = list_any (λ (z : Zone). z.params.enabled) job.zones

-- the first plate whose name has no details, where some zone is enabled
abbrev pub without_details : Job → List (List ℕ) → Option ℕ
without_details job names =
    if some_enabled job then position (λ name. is_none (detail_of job.details name)) names else None

-- the page of these parts, or its fault
abbrev pub faulted : PageParts → Option PageFault → Result PageParts CommonError
faulted parts None = Ok parts
faulted parts (Some fault) = Err (Page fault)

-- the page of these parts, or the plate that lacks its details
abbrev pub detailed : Option ℕ → PageParts → Result PageParts CommonError
detailed None parts = faulted parts (page_fault parts)
detailed (Some plate) parts = Err (NoDetails plate)

-- the page of planes, or why there is none: a plane without details, and then the first fault of
-- the parts
abbrev pub assembly_of_planes : Job → List Plane → List (List ℕ) → Result PageParts CommonError
assembly_of_planes job planes names =
    detailed (without_details job names) (parts_of_planes job planes names)

-- and of plates
abbrev pub assembly : Job → List Plate → List (List ℕ) → Result PageParts CommonError
assembly job plates names = assembly_of_planes job (map plane_of plates) names

-- as many names as planes, and each plane in range
pub record CanAssemblePlanes (planes : List Plane) (names : List (List ℕ)) : Type 0 where
  pub some : 1 ≤ length planes
  pub few : length planes ≤ most_plates
  pub named : length names ≡ length planes
  pub in_range : All IsPlane planes

-- as many names as plates, and each plate in range
pub record CanAssemble (plates : List Plate) (names : List (List ℕ)) : Type 0 where
  pub some : 1 ≤ length plates
  pub few : length plates ≤ most_plates
  pub named : length names ≡ length plates
  pub in_range : All IsPlate plates
