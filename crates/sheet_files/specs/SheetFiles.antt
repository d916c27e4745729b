-- The files of a sheet's plates: the grammar of a page's, with the limits of a sheet's sides.
use Rattle.std.specs.Prelude.{◌≡◌, ℕ, ◌≤◌, All, List, length}
use Rattle.page_model.specs.declared.parts.Plane.{Plane}
use Rattle.pgm_plates.specs.declared.plate.Plate.{Plate}
use Rattle.pgm_plates.specs.declared.plate.PlateFault.{PlateFault}
use Rattle.pgm_plates.specs.declared.bounds.Bounds.TheVariants.{Sheet}
use Rattle.pgm_plates.specs.Faults.{IsFaultWithin}
use Rattle.pgm_plates.specs.Planes.{IsPlaneWithin}
use Rattle.pgm_plates.specs.Plates.{IsPlateWithin, IsPlateFileWithin}
use Rattle.page_model.specs.Limits.{most_plates}

-- a plate of a sheet
abbrev pub IsSheetPlate : Plate → Type 0
IsSheetPlate = IsPlateWithin Sheet

-- the bytes of one
abbrev pub IsSheetFile : List ℕ → Plate → Type 0
IsSheetFile = IsPlateFileWithin Sheet

-- the first fault of bytes that are none
abbrev pub IsSheetFault : List ℕ → PlateFault → Type 0
IsSheetFault = IsFaultWithin Sheet

-- as many names as plates, and each plate in range
pub record CanAssembleSheet (plates : List Plate) (names : List (List ℕ)) : Type 0 where
  pub some : 1 ≤ length plates
  pub few : length plates ≤ most_plates
  pub named : length names ≡ length plates
  pub in_range : All IsSheetPlate plates

-- as many names as planes, and each plane in range
pub record CanCutPlanes (planes : List Plane) (names : List (List ℕ)) : Type 0 where
  pub some : 1 ≤ length planes
  pub few : length planes ≤ most_plates
  pub named : length names ≡ length planes
  pub in_range : All (IsPlaneWithin Sheet) planes
