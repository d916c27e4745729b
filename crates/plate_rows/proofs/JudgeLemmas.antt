-- Plates that are judged: one, row by row, and one after the other; the error of the first.
use Rattle.std.proofs.Common.{◌≡◌, ◌≢◌, ℕ, ◌+◌, ◌<◌, List, [], length, map, get_or, Result, Ok, Err, inl, refl, sym, ap, subst, arith}
use Rattle.std.specs.Prelude.{slice_set}
use Rattle.std.proofs.lemmas.List.{get_or-map, get_or-set_same, get_or-set_other}
use Rattle.outside.specs.Tray.{TrayState}
use Rattle.pgm_plates.specs.declared.bounds.Bounds.TheVariants.{Sheet}
use Rattle.pgm_plates.specs.declared.header.Header.{Header}
use Rattle.pgm_plates.specs.declared.plate.PlateError.{PlateError}
use Rattle.pgm_plates.specs.declared.plate.PlateError.TheVariants.{Fault, ReadFault, OutOfMemory}
use Rattle.pgm_plates.specs.declared.rows.OpenPlate.{OpenPlate}
use Rattle.pgm_plates.specs.Rows.{EndsPlate, ReadsSome, samples_of}
use Rattle.common_errors.specs.declared.common.CommonError.{CommonError}
use Rattle.plate_rows.specs.declared.judging.PlateErrorAt.{PlateErrorAt}
use Rattle.plate_rows.specs.Judging.{Judges, JudgesPlate, JudgesPlates, JudgesRest, JudgesShare, Refuses, RefusesFirst, error_at}
use Rattle.plate_rows.specs.Trays.{EachTray, name_at, no_header, no_tray}
use Rattle.plate_rows.proofs.EachLemmas.{each_as, set_more, set_stops}

-- the rest of a plate, by its samples and by what stands behind them
pub rest_judged : (plate : OpenPlate) (a b c : TrayState) (result : Result (Unit {0}) PlateError) → ReadsSome plate 0 (samples_of plate.header) a b (Ok tt) → EndsPlate plate b c result → JudgesRest plate a c result
rest_judged plate a b c (Ok x) rows ends name start has = (rows.0, ends Sheet name start rows.0 (rows.2 Sheet name start [] has refl (omega (arith, rows.1))) rows.1)
rest_judged plate a b c (Err common_error) rows ends name start has = ends Sheet name start rows.0 (rows.2 Sheet name start [] has refl (omega (arith, rows.1))) rows.1

pub rest_refused : (plate : OpenPlate) (a c : TrayState) (common_error : PlateError) → ReadsSome plate 0 (samples_of plate.header) a c (Err common_error) → JudgesRest plate a c (Err common_error)
rest_refused plate a c common_error rows name start has = rows.2 Sheet name start [] has refl (omega (arith, rows.1))

-- one plate after the other
module _ {X : Type 0} (f : X → TrayState) (names : List (List ℕ)) (headers : List Header) (a : List TrayState) (xs : List X) (k : ℕ) (d x : X) (within : k < length xs) (so_far : EachTray k (Judges names headers) a (map f xs)) where
  pub one_judged : (header : Header) → k < length headers → JudgesPlate (name_at names k) (f (get_or xs k d)) (f x) (Ok header) → EachTray (k + 1) (Judges names (slice_set headers k header)) a (map f (slice_set xs k x))
  one_judged header stored here =
      let put = slice_set headers k header in
      let so_far' = each_as no_tray k (Judges names headers) (Judges names put) a (map f xs)
      (λ j y z less does. let other : j ≢ k = omega arith in subst (λ (h : Header). JudgesPlate (name_at names j) y z (Ok h)) (sym (get_or-set_other headers k j header no_header other)) does) so_far in
      set_more f no_tray xs k d x within (Judges names put) a so_far'
      (subst (λ (h : Header). JudgesPlate (name_at names k) (f (get_or xs k d)) (f x) (Ok h)) (sym (get_or-set_same headers k header no_header stored)) here)

  pub one_refused : (common_error : PlateError) → k < length names → (◌≡◌ {A = Result Header PlateError} (Err common_error) (Err OutOfMemory) → ⊥) → JudgesPlate (name_at names k) (f (get_or xs k d)) (f x) (Err common_error) → JudgesShare names headers a (map f (slice_set xs k x)) (Err (record { plate = k; plate_error = common_error }))
  one_refused common_error known memory here =
      let stops = set_stops f no_tray xs k d x within (Judges names headers) (Refuses names common_error) a (length names) known so_far here in (
        record {
          known = known;
          each = stops.each;
          here = stops.here;
          later = λ j past less. inl (stops.others j past);
          others = λ j more. stops.others j (omega arith);
        },
        (λ same. (let is : ◌≡◌ {A = Result Header PlateError} (Err common_error) (Err OutOfMemory) = ap (λ (r : PlateError). Err r) same in memory is)),
      )

-- The first error, with the number of its plate.
reported_of : (names : List (List ℕ)) (headers : List Header) (a b : List TrayState) (k : ℕ) (common_error : PlateError) → common_error ≢ OutOfMemory → RefusesFirst names headers k common_error a b → JudgesPlates names headers a b (Err (error_at k common_error))
reported_of names headers a b k (Fault fault) memory first = first
reported_of names headers a b k ReadFault memory first = first
reported_of names headers a b k OutOfMemory memory first = absurd (memory refl)

pub plates_refused : (names : List (List ℕ)) (headers : List Header) (a b : List TrayState) (error : PlateErrorAt) (common_error : CommonError) → common_error ≡ error_at error.plate error.plate_error → JudgesShare names headers a b (Err error) → JudgesPlates names headers a b (Err common_error)
plates_refused names headers a b error common_error is judges =
    subst (λ (r : CommonError). JudgesPlates names headers a b (Err r)) (sym is) (reported_of names headers a b error.plate error.plate_error judges.1 judges.0)

-- the name of a place, by the words that the names stand in
pub named : {X : Type 0} (text : X → List ℕ) (inputs : List X) (k : ℕ) (d : X) → k < length inputs → name_at (map text inputs) k ≡ text (get_or inputs k d)
named text inputs k d within = get_or-map text inputs k d [] within
