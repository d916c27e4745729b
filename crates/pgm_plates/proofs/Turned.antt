-- Samples and tints that are turned into each other stay in range.
use Rattle.std.proofs.Common.{◌≡◌, ℕ, ◌≤◌, ◌*◌, ◌-◌, List, map, take, drop, ap, sym, ◌∙◌, arith}
use Rattle.std.proofs.lemmas.List.{length-map, take-map, drop-map}
use Rattle.std.proofs.lemmas.List.Elements.{All-map}
use Rattle.std.specs.List.{All}
use Rattle.page_model.specs.Conditions.{IsPlane}
use Rattle.page_model.specs.declared.parts.Plane.{Plane}
use Rattle.pgm_plates.specs.declared.bounds.Bounds.{Bounds}
use Rattle.pgm_plates.specs.declared.bounds.Bounds.TheVariants.{Page}
use Rattle.pgm_plates.specs.declared.plate.Plate.{Plate}
use Rattle.pgm_plates.specs.declared.writing.Image.{Image}
use Rattle.pgm_plates.specs.Planes.{IsPlaneWithin, plane_of, plate_of, sample_in, samples_in}
use Rattle.pgm_plates.specs.Plates.{IsPlate, IsPlateWithin}
use Rattle.page_model.specs.Limits.{most_samples}

pub turned_fit : (m : ℕ) (xs : List ℕ) → All (λ (s : ℕ). s ≤ m) (map (λ (s : ℕ). m - s) xs)
turned_fit m xs = All-map (λ (s : ℕ). s ≤ m) (λ (s : ℕ). m - s) xs (λ k d here. omega arith)

module _ (bounds : Bounds) where
  pub plane_within : (plate : Plate) → IsPlateWithin bounds plate → IsPlaneWithin bounds (plane_of plate)
  plane_within plate ok = record {
    some_width = ok.width.0;
    narrow = ok.width.1;
    some_height = ok.height.0;
    low = ok.height.1;
    few = ok.product;
    some_maxval = ok.positive;
    maxval_fits = ok.maxval;
    full = length-map plate.samples (λ (s : ℕ). plate.maxval - s) ∙ ok.count;
    below = turned_fit plate.maxval plate.samples;
  }

  pub plate_within : (plane : Plane) → IsPlaneWithin bounds plane → IsPlateWithin bounds (plate_of plane)
  plate_within plane ok = record {
    width = (ok.some_width, ok.narrow);
    height = (ok.some_height, ok.low);
    product = ok.few;
    positive = ok.some_maxval;
    maxval = ok.maxval_fits;
    count = length-map plane.tints (λ (t : ℕ). plane.maxval - t) ∙ ok.full;
    samples = turned_fit plane.maxval plane.tints;
  }

-- A page's planes have no bound on their own samples; the page has one on those of all.
pub page_plane : (plane : Plane) → IsPlaneWithin Page plane → IsPlane plane
page_plane plane ok = record {
  some_width = ok.some_width;
  narrow = ok.narrow;
  some_height = ok.some_height;
  low = ok.low;
  some_maxval = ok.some_maxval;
  maxval_fits = ok.maxval_fits;
  full = ok.full;
  below = ok.below;
}

pub plane_in_range : (plate : Plate) → IsPlate plate → IsPlane (plane_of plate)
plane_in_range plate ok = page_plane (plane_of plate) (plane_within Page plate ok)

pub plate_in_range : (plane : Plane) → IsPlane plane → plane.width * plane.height ≤ most_samples → IsPlate (plate_of plane)
plate_in_range plane ok few = plate_within Page plane (record {
  some_width = ok.some_width;
  narrow = ok.narrow;
  some_height = ok.some_height;
  low = ok.low;
  few = few;
  some_maxval = ok.some_maxval;
  maxval_fits = ok.maxval_fits;
  full = ok.full;
  below = ok.below;
})

-- The samples of a piece of an image are a piece of its samples.
pub samples_of_piece : (image : Image) (values : List ℕ) (from count : ℕ) → samples_in image (take count (drop from values)) ≡ take count (drop from (samples_in image values))
samples_of_piece image values from count = sym (take-map (sample_in image) count (drop from values)) ∙ ap (take count) (sym (drop-map (sample_in image) from values))
