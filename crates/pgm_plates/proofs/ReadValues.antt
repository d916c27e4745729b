-- What is read as samples or as tints: the samples that it is, piece after piece, and the plate.
use Rattle.std.proofs.Common.{◌≡◌, ℕ, ◌≤◌, ◌+◌, ◌*◌, ◌-◌, List, length, map, ◌++◌, Some, Ok, refl, sym, ap, ◌∙◌, subst, arith}
use Rattle.std.proofs.lemmas.List.{length-map, map-append}
use Rattle.std.proofs.lemmas.List.Elements.{All-append}
use Rattle.outside.specs.Tray.{TrayState}
use Rattle.outside.specs.Reading.{Takes}
use Rattle.outside.proofs.Steps.{takes_as}
use Rattle.page_model.specs.Conditions.{IsPlane}
use Rattle.page_model.specs.Limits.{most_samples}
use Rattle.page_model.specs.declared.parts.Plane.{Plane}
use Rattle.pgm_plates.specs.declared.plate.PlateError.{PlateError}
use Rattle.pgm_plates.specs.declared.plate.PlateError.TheVariants.{OutOfMemory}
use Rattle.pgm_plates.specs.declared.values.Form.{Form}
use Rattle.pgm_plates.specs.declared.values.Form.TheVariants.{Samples, Tints}
use Rattle.pgm_plates.specs.Planes.{plate_of}
use Rattle.pgm_plates.specs.Plates.{IsPlate, raster, sample_size}
use Rattle.pgm_plates.specs.Readers.{Fit, RasterRefused, RasterTaken, samples_from}
use Rattle.pgm_plates.specs.Reading.{ReadsPlate}
use Rattle.pgm_plates.specs.Sequences.{ReadsPage}
use Rattle.pgm_plates.proofs.Facts.{turned_back}
use Rattle.pgm_plates.proofs.Pieces.{refused_on, workspace_refused, taken_on}
use Rattle.pgm_plates.proofs.Turned.{turned_fit}

pub from_size : (t : Form) (m : ℕ) (xs : List ℕ) → length (samples_from t m xs) ≡ length xs
from_size Tints m xs = length-map xs (λ (v : ℕ). m - v)
from_size Samples m xs = refl

pub from_fit : (t : Form) (m : ℕ) (xs : List ℕ) → Fit m xs → Fit m (samples_from t m xs)
from_fit Tints m xs fit = turned_fit m xs
from_fit Samples m xs fit = fit

-- a piece, whose samples these values are
pub taken_from : (t : Form) (m : ℕ) (a b : TrayState) (xs ys : List ℕ) → samples_from t m ys ≡ xs → RasterTaken m (length xs) a b xs → RasterTaken m (length ys) a b (samples_from t m ys)
taken_from t m a b xs ys is taken =
    let same = subst (λ (l : List ℕ). RasterTaken m (length xs) a b l) (sym is) taken in
    record { takes = same.takes; fit = same.fit; all = from_size t m ys }

from_both : (t : Form) (m : ℕ) (xs ys : List ℕ) → samples_from t m xs ++ samples_from t m ys ≡ samples_from t m (xs ++ ys)
from_both Tints m xs ys = sym (map-append (λ (v : ℕ). m - v) xs ys)
from_both Samples m xs ys = refl

-- a piece more
pub values_more : (t : Form) (m want : ℕ) (a b c : TrayState) (xs ys all : List ℕ) → all ≡ xs ++ ys → Takes (raster m (samples_from t m xs)) a b → Fit m xs → RasterTaken m want b c (samples_from t m ys) → Fit m ys → Takes (raster m (samples_from t m all)) a c × Fit m all
values_more t m want a b c xs ys all is took fit taken more = (
  takes_as (raster m (samples_from t m xs ++ samples_from t m ys)) (raster m (samples_from t m all)) a c (ap (raster m) (from_both t m xs ys ∙ ap (samples_from t m) (sym is))) (taken_on m want a b c (samples_from t m xs) (samples_from t m ys) took taken),
  subst (Fit m) (sym is) (All-append (λ (s : ℕ). s ≤ m) xs ys fit more),
)

-- all pieces
pub values_all : (t : Form) (m count : ℕ) (a b : TrayState) (xs : List ℕ) → Takes (raster m (samples_from t m xs)) a b → Fit m xs → length xs ≡ count → RasterTaken m count a b (samples_from t m xs)
values_all t m count a b xs took fit all = record { takes = took; fit = from_fit t m xs fit; all = from_size t m xs ∙ all }

-- no room for a piece
pub values_no_workspace : (t : Form) (m count want start : ℕ) (a b c : TrayState) (xs ys : List ℕ) → Takes (raster m (samples_from t m xs)) a b → length xs + want ≤ count → RasterTaken m want b c (samples_from t m ys) → RasterRefused m count start a c OutOfMemory
values_no_workspace t m count want start a b c xs ys took few taken =
    workspace_refused m count want start a b c (samples_from t m xs) (samples_from t m ys) took (omega (arith, from_size t m xs, few)) taken

-- a piece that is refused
pub values_refused : (t : Form) (m count want start place : ℕ) (a b c : TrayState) (xs : List ℕ) (error : PlateError) → Takes (raster m (samples_from t m xs)) a b → Fit m xs → length xs + want ≤ count → place ≡ start + length xs * sample_size m → RasterRefused m want place b c error → RasterRefused m count start a c error
values_refused t m count want start place a b c xs error took fit few is r =
    refused_on m count want start a b c (samples_from t m xs) error took (from_fit t m xs fit) (omega (arith, from_size t m xs, few))
    (subst (λ (n : ℕ). RasterRefused m want n b c error) (is ∙ ap (λ (n : ℕ). start + n * sample_size m) (sym (from_size t m xs))) r)

-- values that are turned, and turned back
pub turned_from : (m : ℕ) (xs ys : List ℕ) → ys ≡ map (λ (v : ℕ). m - v) xs → Fit m xs → (samples_from Tints m ys ≡ xs) × Fit m ys
turned_from m xs ys is fit = (ap (map (λ (v : ℕ). m - v)) is ∙ turned_back m xs fit, subst (Fit m) (sym is) (turned_fit m xs))

-- the plane of a plate in range
pub plane_of_plate : (plane : Plane) → IsPlate (plate_of plane) → Fit plane.maxval plane.tints → IsPlane plane × (plane.width * plane.height ≤ most_samples)
plane_of_plate plane ok fit = (
  record {
    some_width = ok.width.0;
    narrow = ok.width.1;
    some_height = ok.height.0;
    low = ok.height.1;
    some_maxval = ok.positive;
    maxval_fits = ok.maxval;
    full = sym (length-map plane.tints (λ (t : ℕ). plane.maxval - t)) ∙ ok.count;
    below = fit;
  },
  ok.product,
)

pub plane_read : (name : List ℕ) (a b : TrayState) (plane : Plane) → ReadsPlate name a b (Ok (plate_of plane)) → Fit plane.maxval plane.tints → IsPlane plane × (plane.width * plane.height ≤ most_samples)
plane_read name a b plane read fit = plane_of_plate plane read.answer.1.plate_ok fit

pub page_plane_read : (name : List ℕ) (page : ℕ) (a b : TrayState) (plane : Plane) → ReadsPage name page a b (Ok (Some (plate_of plane))) → Fit plane.maxval plane.tints → IsPlane plane × (plane.width * plane.height ≤ most_samples)
page_plane_read name page a b plane read fit = plane_of_plate plane read.answer.4.plate_ok fit
