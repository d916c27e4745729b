-- Planes, whose tints are the samples of plates turned round: 0 is no ink, and a sample of 0 is
-- black.
use Rattle.std.specs.Prelude.{◌≡◌, ℕ, ◌*◌, ◌-◌, ◌≤◌, if◌then◌else◌, List, length, map, Option}
use Rattle.std.specs.Prelude.{Some, None, Result, Ok, Err}
use Rattle.std.specs.List.{All}
use Rattle.page_model.specs.Limits.{most_maxval}
use Rattle.page_model.specs.declared.parts.Plane.{Plane}
use Rattle.pgm_plates.specs.declared.bounds.Bounds.{Bounds}
use Rattle.pgm_plates.specs.declared.plate.Plate.{Plate}
use Rattle.pgm_plates.specs.declared.writing.Image.{Image}
use Rattle.pgm_plates.specs.Limits.{samples_within, side_within}

-- a plane within the bounds, with a tint for each of its samples
pub record IsPlaneWithin (bounds : Bounds) (plane : Plane) : Type 0 where
  pub some_width : 1 ≤ plane.width
  pub narrow : plane.width ≤ side_within bounds
  pub some_height : 1 ≤ plane.height
  pub low : plane.height ≤ side_within bounds
  pub few : plane.width * plane.height ≤ samples_within bounds
  pub some_maxval : 1 ≤ plane.maxval
  pub maxval_fits : plane.maxval ≤ most_maxval
  pub full : length plane.tints ≡ plane.width * plane.height
  pub below : All (λ tint. tint ≤ plane.maxval) plane.tints

-- the tints of a plate
abbrev pub plane_of : Plate → Plane
plane_of plate =
    record {
      width = plate.width;
      height = plate.height;
      maxval = plate.maxval;
      tints = map (λ s. plate.maxval - s) plate.samples;
    }

-- the plate that has a plane's tints
abbrev pub plate_of : Plane → Plate
plate_of plane =
    record {
      width = plane.width;
      height = plane.height;
      maxval = plane.maxval;
      samples = map (λ t. plane.maxval - t) plane.tints;
    }

-- what a call gives, with this made of its value
abbrev pub map_ok : {A B E : Type 0} → (A → B) → Result A E → Result B E
map_ok f (Ok x) = Ok (f x)
map_ok f (Err error) = Err error

-- the same of a value, where there is one
abbrev pub map_some : {A B : Type 0} → (A → B) → Option A → Option B
map_some f (Some x) = Some (f x)
map_some f None = None

-- the sample that a value of an image is
abbrev pub sample_in : Image → ℕ → ℕ
sample_in image value = if image.are_tints then image.maxval - value else value

-- those that some values of an image are
abbrev pub samples_in : Image → List ℕ → List ℕ
samples_in image values = map (sample_in image) values

-- the plate of an image
abbrev pub plate_in : Image → Plate
plate_in image =
    record {
      width = image.width;
      height = image.height;
      maxval = image.maxval;
      samples = samples_in image image.values.now;
    }
