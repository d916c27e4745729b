-- Plates that are written, one after the other.
use Rattle.std.proofs.Common.{◌≡◌, ℕ, ◌+◌, ◌<◌, List, length, map, get_or, Some, Ok, Err, sym, ◌∙◌, subst, arith, ◌-◌, [], ◌∷◌, ◌++◌, take, ap}
use Rattle.std.specs.Prelude.{slice_set}
use Rattle.outside.specs.declared.tray.DeviceError.{DeviceError}
use Rattle.outside.specs.ErrorCases.{Asks}
use Rattle.outside.specs.Rack.{RackState, put}
use Rattle.outside.proofs.Files.{grows_put}
use Rattle.outside.proofs.Steps.{kept_then, reported_on}
use Rattle.pgm_plates.specs.Planes.{plate_of}
use Rattle.pgm_plates.specs.Plates.{raster, spelled_header}
use Rattle.pgm_plates.proofs.Decisions.{raster_both}
use Rattle.std.proofs.Math.Seq.{take-append_seam}
use Rattle.std.proofs.lemmas.List.{append_assoc, map-append}
use Rattle.pgm_plates.specs.declared.header.Header.{Header}
use Rattle.pgm_plates.specs.Rows.{BeginsImage, EndsImage, WritesRows, plane_with, spelled_so_far}
use Rattle.common_errors.specs.declared.common.CommonError.TheVariants.{Write}
use Rattle.plate_rows.specs.Images.{BeginsImages, CreatesAt, EndsImages, FinishesAt, WritesAt, WritesNext}
use Rattle.plate_rows.specs.Laws.{WritingBreaks, WritingEnds, WritingGrows, WritingHolds, WritingLeaves}
use Rattle.plate_rows.specs.Racks.{EachRack, no_rack, rack_at}
use Rattle.plate_rows.specs.Rereading.{turned}
use Rattle.plate_rows.specs.Trays.{name_at}
use Rattle.plate_rows.proofs.EachLemmas.{set_more, set_stops}

module _ {X : Type 0} (f : X → RackState) (a : List RackState) (xs : List X) (k count : ℕ) (d x : X) (within : k < length xs) (known : k < count) where
  pub created : (names : List (List ℕ)) (header : Header) → EachRack k (CreatesAt names header) a (map f xs) → BeginsImage (name_at names k) header (f (get_or xs k d)) (f x) (Ok tt) → EachRack (k + 1) (CreatesAt names header) a (map f (slice_set xs k x))
  created names header so_far here = set_more f no_rack xs k d x within (CreatesAt names header) a so_far here

  pub not_created : (names : List (List ℕ)) (header : Header) (failed : DeviceError) → k < length names → EachRack k (CreatesAt names header) a (map f xs) → BeginsImage (name_at names k) header (f (get_or xs k d)) (f x) (Err failed) → BeginsImages names header a (map f (slice_set xs k x)) (Err (Write (Some k)))
  not_created names header failed named so_far here = set_stops f no_rack xs k d x within (CreatesAt names header) _ a (length names) named so_far (failed, here)

  pub written : (header : Header) (rows : ℕ → List ℕ) → EachRack k (WritesAt header rows) a (map f xs) → WritesRows header (rows k) (f (get_or xs k d)) (f x) (Ok tt) → EachRack (k + 1) (WritesAt header rows) a (map f (slice_set xs k x))
  written header rows so_far here = set_more f no_rack xs k d x within (WritesAt header rows) a so_far here

  pub not_written : (header : Header) (rows : ℕ → List ℕ) (failed : DeviceError) → EachRack k (WritesAt header rows) a (map f xs) → WritesRows header (rows k) (f (get_or xs k d)) (f x) (Err failed) → WritesNext count header rows a (map f (slice_set xs k x)) (Err (Write (Some k)))
  not_written header rows failed so_far here = set_stops f no_rack xs k d x within (WritesAt header rows) _ a count known so_far (failed, here)

  pub finished : EachRack k FinishesAt a (map f xs) → EndsImage (f (get_or xs k d)) (f x) (Ok tt) → EachRack (k + 1) FinishesAt a (map f (slice_set xs k x))
  finished so_far here = set_more f no_rack xs k d x within FinishesAt a so_far here

  pub not_finished : (failed : DeviceError) → EachRack k FinishesAt a (map f xs) → EndsImage (f (get_or xs k d)) (f x) (Err failed) → EndsImages count a (map f (slice_set xs k x)) (Err (Write (Some k)))
  not_finished failed so_far here = set_stops f no_rack xs k d x within FinishesAt _ a count known so_far (failed, here)

pub writing_grows : WritingGrows
writing_grows names header count tints rows start before after have writes = record {
  each = λ k less. writes.each k less (name_at names k) (tints k) (rack_at start k) (have.each k less);
  others = λ k more. writes.others k more ∙ have.others k more;
}

-- a rack after the one that failed, among so many
after_it : {Does : ℕ → RackState → RackState → Type 0} (count k : ℕ) (start before after : List RackState) → EachRack count Does start before → ((j : ℕ) → k < j → rack_at after j ≡ rack_at before j) → (j : ℕ) → k < j → j < count → Does j (rack_at start j) (rack_at after j)
after_it {Does} count k start before after have others j more less = subst (λ (r : RackState). Does j (rack_at start j) r) (sym (others j more)) (have.each j less)

pub writing_breaks : WritingBreaks
writing_breaks names header count k tints rows start before after have writes = record {
  known = writes.known;
  failed = writes.here.0;
  here = λ more. writes.here.1 (name_at names k) (tints k) more (rack_at start k) (have.each k writes.known);
  done = λ j less. writes.each j less (name_at names j) (tints j) (rack_at start j) (have.each j (let known = writes.known in omega arith));
  left = after_it count k start before after have writes.others;
  others = λ j more. (let known = writes.known in writes.others j (omega arith) ∙ have.others j more);
}

pub writing_ends : WritingEnds
writing_ends names header count tints start before after have ends = record {
  each = λ k less. ends.each k less (name_at names k) header (tints k) (rack_at start k) (have.each k less);
  others = λ k more. ends.others k more ∙ have.others k more;
}

pub writing_leaves : WritingLeaves
writing_leaves names header count k tints start before after have ends = record {
  known = ends.known;
  failed = ends.here.0;
  here = ends.here.1 (name_at names k) header (tints k) (rack_at start k) (have.each k ends.known);
  done = λ j less. ends.each j less (name_at names j) header (tints j) (rack_at start j) (have.each j (let known = ends.known in omega arith));
  left = after_it count k start before after have ends.others;
  others = λ j more. (let known = ends.known in ends.others j (omega arith) ∙ have.others j more);
}

-- the spelling, with some tints more
spelled_on : (header : Header) (tints more : List ℕ) → spelled_so_far header (tints ++ more) ≡ spelled_so_far header tints ++ raster header.maxval (turned header.maxval more)
spelled_on header tints more =
    let m = header.maxval in
    let head = spelled_header (plate_of (plane_with header [])) in
    ap (λ (x : List ℕ). head ++ raster m x) (map-append (λ (t : ℕ). m - t) tints more)
    ∙ ap (λ (x : List ℕ). head ++ x) (raster_both m (turned header.maxval tints) (turned header.maxval more))
    ∙ sym (append_assoc head (raster m (turned header.maxval tints)) (raster m (turned header.maxval more)))

pub writing_holds : WritingHolds
writing_holds name header tints more a b has =
    let bytes = spelled_so_far header tints in
    let first : take (length bytes) (spelled_so_far header (tints ++ more)) ≡ bytes = ap (take (length bytes)) (spelled_on header tints more) ∙ take-append_seam bytes (raster header.maxval (turned header.maxval more)) in
    record {
      keeps = kept_then a has.created b has.creates.keeps has.writes.keeps;
      asked = subst (λ o. Asks a.asked o (name ∷ [])) (sym has.writes.asked) has.creates.asked;
      reported = λ tells. has.writes.reported (reported_on a has.created has.creates.keeps tells) ∙ has.creates.reported tells;
      finished = has.writes.finished ∙ has.creates.finished;
      is_open = has.is_open;
      well = has.writes.well ∙ has.creates.fails.well;
      file = λ tells.
          grows_put name bytes a has.created b (has.creates.current tells) (has.creates.files tells) (has.writes.files (reported_on a has.created has.creates.keeps tells))
          ∙ ap (λ (x : List ℕ). put name x a.file) (sym first);
    }
