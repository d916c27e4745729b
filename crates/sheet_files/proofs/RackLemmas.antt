-- Planes that are written one after another, each by its own rack.
use Rattle.std.proofs.Common.{◌≡◌, ◌≢◌, ◌⊎◌, ℕ, zero, suc, ◌+◌, ◌<◌, ◌≤◌, List, [], ◌∷◌, length, map, get_or, Option, Some, None, Result, Ok, Err, IsTrue, inl, inr, refl, sym, ap, ◌∙◌, subst, arith}
use Rattle.std.specs.Prelude.{slice_set}
use Rattle.std.proofs.lemmas.Bool.{cases_eq, cases_lt}
use Rattle.std.proofs.lemmas.List.{get_or-map, get_or_default, length-set, map-set, get_or-set_same, get_or-set_other}
use Rattle.outside.specs.ErrorCases.{AsksPrefix}
use Rattle.outside.specs.Rack.{RackState, KeepsRack}
use Rattle.outside.specs.Writing.{WritesFile}
use Rattle.outside.specs.declared.tray.DeviceError.{DeviceError}
use Rattle.outside.proofs.Names.{asks_all, asks_before, asks_none_of, asks_then}
use Rattle.outside.proofs.Steps.{kept_then, once_before, reported_on}
use Rattle.page_files.specs.Inputs.{name_at}
use Rattle.page_model.specs.declared.parts.Plane.{Plane}
use Rattle.page_model.specs.Planes.{no_plane, plane_at}
use Rattle.page_files.specs.Files.{Written}
use Rattle.page_files.specs.Format.{encoded}
use Rattle.page_files.specs.Writing.{BreaksAt, WritesAll}
use Rattle.page_files.proofs.Steps.{breaks_next, wrote_more, wrote_none}
use Rattle.common_errors.specs.declared.common.CommonError.TheVariants.{Write}
use Rattle.sheet_files.specs.declared.error.TrapsheetError.{TrapsheetError}
use Rattle.sheet_files.specs.declared.error.TrapsheetError.TheVariants.{Common}
use Rattle.page_files.specs.Verdicts.{Targets}
use Rattle.plate_rows.specs.Racks.{rack_at}
use Rattle.sheet_files.specs.Racks.{BreaksSheet, HoldsPart, KeepsRacks, WritesFirst, WritesPlates, WritesSheet, plate_file, rack_files, rack_names, targets}

-- one element of a list was changed, seen through a function
module _ {X Y : Type 0} (f : X → Y) (none : Y) (xs : List X) (k : ℕ) (d x : X) (within : k < length xs) where
  pub state_here : get_or (map f (slice_set xs k x)) k none ≡ f x
  state_here =
      let long : k < length (slice_set xs k x) = omega (arith, length-set xs k x) in
      get_or-map f (slice_set xs k x) k d none long ∙ ap f (get_or-set_same xs k x d within)

  pub state_before : get_or (map f xs) k none ≡ f (get_or xs k d)
  state_before = get_or-map f xs k d none within

  pub state_other : (j : ℕ) → j ≢ k → get_or (map f (slice_set xs k x)) j none ≡ get_or (map f xs) j none
  state_other j other = ap (λ (l : List Y). get_or l j none) (map-set f xs k x) ∙ get_or-set_other (map f xs) k j (f x) none other

pub keeps_same : (a : RackState) → KeepsRack a a
keeps_same a = record { tells = refl; faults = omega arith }

-- one file is written by a rack
pub wrote_one : {T E : Type 0} (w : Written) (a b : RackState) (x : T) → WritesFile {T = T} {E = E} w.name w.bytes a b (Ok x) → WritesAll (w ∷ []) a b
wrote_one w a b x now = wrote_more [] w a a b x (keeps_same a) (wrote_none [] a refl) now

-- What becomes of a rack that is asked for a prefix of these files.
pub record RackKept (names : List (List ℕ)) (a b : RackState) : Type 0 where
  pub keeps : KeepsRack a b
  pub reported : IsTrue a.tells → b.reported ≡ a.reported
  pub asked : AsksPrefix a.asked b.asked names

kept_none : (names : List (List ℕ)) (a : RackState) → RackKept names a a
kept_none names a = record { keeps = keeps_same a; reported = λ tells. refl; asked = asks_none_of a.asked names }

pub kept_is : (names : List (List ℕ)) (a b : RackState) → b ≡ a → RackKept names a b
kept_is names a b same = subst (λ (r : RackState). RackKept names a r) (sym same) (kept_none names a)

pub kept_file : {T E : Type 0} (name bytes : List ℕ) (rest : List (List ℕ)) (a b : RackState) (result : Result T E) → WritesFile name bytes a b result → RackKept (name ∷ rest) a b
kept_file name bytes rest a b result now = record {
  keeps = now.keeps;
  reported = now.reported;
  asked = asks_before a.asked b.asked (name ∷ []) rest now.asked;
}

-- one file, and then another
kept_two : {T U E D : Type 0} (name bytes last text : List ℕ) (a b c : RackState) (one : Result T E) (two : Result U D) → WritesFile name bytes a b one → WritesFile last text b c two → RackKept (name ∷ last ∷ []) a c
kept_two name bytes last text a b c one two first now = record {
  keeps = kept_then a b c first.keeps now.keeps;
  reported = λ tells. now.reported (reported_on a b first.keeps tells) ∙ first.reported tells;
  asked = asks_all a.asked c.asked (name ∷ last ∷ []) (asks_then a.asked b.asked c.asked (name ∷ []) (last ∷ []) first.asked now.asked);
}

pub none_first : (outputs : List (List ℕ)) (planes : List Plane) (a : List RackState) → WritesFirst outputs planes 0 a a
none_first outputs planes a = record { each = λ k less. absurd (omega arith); others = λ k more. refl }

-- one plane more
module _ (outputs : List (List ℕ)) (planes : List Plane) (k : ℕ) (a b c : List RackState) (before : WritesFirst outputs planes k a b) (others : (j : ℕ) → j ≢ k → rack_at c j ≡ rack_at b j) where
  abbrev Wrote : ℕ → RackState → RackState → Type 0
  Wrote j r s = WritesFile {T = Unit {0}} {E = DeviceError} (name_at outputs j) (encoded (plane_at planes j)) r s (Ok tt)

  more_at : Wrote k (rack_at b k) (rack_at c k) → (j : ℕ) → j < k + 1 → Wrote j (rack_at a j) (rack_at c j)
  more_at here j less = elim (cases_eq j k) [
    | inl same ↦ subst (λ (n : ℕ). Wrote n (rack_at a n) (rack_at c n)) (sym same) (subst (λ (r : RackState). Wrote k r (rack_at c k)) (before.others k (omega arith)) here)
    | inr other ↦ (let below : j < k = omega arith in subst (λ (r : RackState). Wrote j (rack_at a j) r) (sym (others j other)) (before.each j below))
  ]

  pub first_more : Wrote k (rack_at b k) (rack_at c k) → WritesFirst outputs planes (k + 1) a c
  first_more here = record {
    each = more_at here;
    others = λ j more. (let other : j ≢ k = omega arith in others j other ∙ before.others j (omega arith));
  }

-- Some planes are written, each by its own rack.
module _ (outputs : List (List ℕ)) (report : List ℕ) (planes : List Plane) (text : List ℕ) (count : ℕ) (a b : List RackState) (first : WritesFirst outputs planes count a b) where
  kept_at : (k : ℕ) → k < count → RackKept (rack_names (targets outputs report) k) (rack_at a k) (rack_at b k)
  kept_at zero less = kept_file (name_at outputs 0) (encoded (plane_at planes 0)) (report ∷ []) (rack_at a 0) (rack_at b 0) (Ok tt) (first.each 0 less)
  kept_at (suc k) less = kept_file (name_at outputs (suc k)) (encoded (plane_at planes (suc k))) [] (rack_at a (suc k)) (rack_at b (suc k)) (Ok tt) (first.each (suc k) less)

  first_kept : (k : ℕ) → RackKept (rack_names (targets outputs report) k) (rack_at a k) (rack_at b k)
  first_kept k = elim (cases_lt k count) [
    | inl less ↦ kept_at k less
    | inr more ↦ kept_is (rack_names (targets outputs report) k) (rack_at a k) (rack_at b k) (first.others k (omega arith))
  ]

  whole : (k : ℕ) → k < count → WritesAll (plate_file (targets outputs report) planes k ∷ []) (rack_at a k) (rack_at b k)
  whole k less = wrote_one (plate_file (targets outputs report) planes k) (rack_at a k) (rack_at b k) tt (first.each k less)

  -- The write of the next plane fails.
  module _ (c : List RackState) (failed : DeviceError) (known : count < length outputs) (now : WritesFile {T = Unit {0}} (name_at outputs count) (encoded (plane_at planes count)) (rack_at b count) (rack_at c count) (Err failed)) (others : (j : ℕ) → j ≢ count → rack_at c j ≡ rack_at b j) where
    now_from : WritesFile {T = Unit {0}} (name_at outputs count) (encoded (plane_at planes count)) (rack_at a count) (rack_at c count) (Err failed)
    now_from = subst (λ (r : RackState). WritesFile {T = Unit {0}} (name_at outputs count) (encoded (plane_at planes count)) r (rack_at c count) (Err failed)) (first.others count (omega arith)) now

    broken_kept : (k : ℕ) → k ≡ count → WritesFile {T = Unit {0}} (name_at outputs k) (encoded (plane_at planes k)) (rack_at a k) (rack_at c k) (Err failed) → RackKept (rack_names (targets outputs report) k) (rack_at a k) (rack_at c k)
    broken_kept zero same at = kept_file (name_at outputs 0) (encoded (plane_at planes 0)) (report ∷ []) (rack_at a 0) (rack_at c 0) (Err failed) at
    broken_kept (suc k) same at = kept_file (name_at outputs (suc k)) (encoded (plane_at planes (suc k))) [] (rack_at a (suc k)) (rack_at c (suc k)) (Err failed) at

    each_kept : (k : ℕ) → RackKept (rack_names (targets outputs report) k) (rack_at a k) (rack_at c k)
    each_kept k = elim (cases_eq k count) [
      | inl same ↦ broken_kept k same (subst (λ (n : ℕ). WritesFile {T = Unit {0}} (name_at outputs n) (encoded (plane_at planes n)) (rack_at a n) (rack_at c n) (Err failed)) (sym same) now_from)
      | inr other ↦ subst (λ (r : RackState). RackKept (rack_names (targets outputs report) k) (rack_at a k) r) (sym (others k other)) (first_kept k)
    ]

    breaks_at : (k : ℕ) → WritesFile {T = Unit {0}} (name_at outputs k) (encoded (plane_at planes k)) (rack_at a k) (rack_at c k) (Err failed) → BreaksAt (rack_files (targets outputs report) planes text k) 0 (rack_at a k) (rack_at c k)
    breaks_at zero at = breaks_next [] (plate_file (targets outputs report) planes 0) (record { name = report; bytes = text } ∷ []) (rack_at a 0) (rack_at a 0) (rack_at c 0) failed (keeps_same (rack_at a 0)) (wrote_none [] (rack_at a 0) refl) at
    breaks_at (suc k) at = breaks_next [] (plate_file (targets outputs report) planes (suc k)) [] (rack_at a (suc k)) (rack_at a (suc k)) (rack_at c (suc k)) failed (keeps_same (rack_at a (suc k))) (wrote_none [] (rack_at a (suc k)) refl) at

    other_racks : (k : ℕ) → k ≢ count → (rack_at c k ≡ rack_at a k) ⊎ HoldsPart (plate_file (targets outputs report) planes k) (rack_at a k) (rack_at c k) ⊎ WritesAll (plate_file (targets outputs report) planes k ∷ []) (rack_at a k) (rack_at c k)
    other_racks k other = elim (cases_lt k count) [
      | inl less ↦ inr (inr (subst (λ (r : RackState). WritesAll (plate_file (targets outputs report) planes k ∷ []) (rack_at a k) r) (sym (others k other)) (whole k less)))
      | inr more ↦ inl (others k other ∙ first.others k (omega arith))
    ]

    pub plate_broke : BreaksSheet (targets outputs report) planes text (Some count) a c
    plate_broke = record { known = known; breaks = breaks_at count now_from; once = now_from.once; others = other_racks; whole = λ is. absurd (let e : ◌≡◌ {A = Option ℕ} (Some count) None = is in cc) }

    pub broke_keeps : KeepsRacks (targets outputs report) a c
    broke_keeps = record {
      keeps = λ k. (each_kept k).keeps;
      reported = λ k. (each_kept k).reported;
      asked = λ k. (each_kept k).asked;
      beyond = λ k more. (let other : k ≢ count = omega arith in others k other ∙ first.others k (omega arith));
    }

-- All planes are written, and then the report.
module _ (outputs : List (List ℕ)) (report : List ℕ) (planes : List Plane) (text : List ℕ) (a b c : List RackState) (some : 1 ≤ length outputs) (first : WritesFirst outputs planes (length outputs) a b) (others : (j : ℕ) → j ≢ 0 → rack_at c j ≡ rack_at b j) where
  all_kept : {T E : Type 0} (result : Result T E) → WritesFile report text (rack_at b 0) (rack_at c 0) result → (k : ℕ) → RackKept (rack_names (targets outputs report) k) (rack_at a k) (rack_at c k)
  all_kept result now zero = kept_two (name_at outputs 0) (encoded (plane_at planes 0)) report text (rack_at a 0) (rack_at b 0) (rack_at c 0) (Ok tt) result (first.each 0 (omega arith)) now
  all_kept result now (suc k) = subst (λ (r : RackState). RackKept (rack_names (targets outputs report) (suc k)) (rack_at a (suc k)) r) (sym (others (suc k) (omega arith))) (first_kept outputs report planes text (length outputs) a b first (suc k))

  pub all_keeps : {T E : Type 0} (result : Result T E) → WritesFile report text (rack_at b 0) (rack_at c 0) result → KeepsRacks (targets outputs report) a c
  all_keeps result now = record {
    keeps = λ k. (all_kept result now k).keeps;
    reported = λ k. (all_kept result now k).reported;
    asked = λ k. (all_kept result now k).asked;
    beyond = λ k more. (let other : k ≢ 0 = omega arith in others k other ∙ first.others k more);
  }

  plates_whole : (k : ℕ) → k < length outputs → WritesAll (plate_file (targets outputs report) planes k ∷ []) (rack_at a k) (rack_at b k)
  plates_whole = whole outputs report planes text (length outputs) a b first

  pub all_wrote : {T E : Type 0} (x : T) → WritesFile {T = T} {E = E} report text (rack_at b 0) (rack_at c 0) (Ok x) → (k : ℕ) → k < length outputs → WritesAll (rack_files (targets outputs report) planes text k) (rack_at a k) (rack_at c k)
  all_wrote x now zero less = wrote_more (plate_file (targets outputs report) planes 0 ∷ []) (record { name = report; bytes = text }) (rack_at a 0) (rack_at b 0) (rack_at c 0) x (first.each 0 less).keeps (plates_whole 0 less) now
  all_wrote x now (suc k) less = subst (λ (r : RackState). WritesAll (rack_files (targets outputs report) planes text (suc k)) (rack_at a (suc k)) r) (sym (others (suc k) (omega arith))) (plates_whole (suc k) less)

  report_others : (k : ℕ) → k ≢ 0 → (rack_at c k ≡ rack_at a k) ⊎ HoldsPart (plate_file (targets outputs report) planes k) (rack_at a k) (rack_at c k) ⊎ WritesAll (plate_file (targets outputs report) planes k ∷ []) (rack_at a k) (rack_at c k)
  report_others k other = elim (cases_lt k (length outputs)) [
    | inl less ↦ inr (inr (subst (λ (r : RackState). WritesAll (plate_file (targets outputs report) planes k ∷ []) (rack_at a k) r) (sym (others k other)) (plates_whole k less)))
    | inr more ↦ inl (others k other ∙ first.others k (omega arith))
  ]

  pub report_broke : {T E : Type 0} (e : E) → WritesFile {T = T} {E = E} report text (rack_at b 0) (rack_at c 0) (Err e) → BreaksSheet (targets outputs report) planes text None a c
  report_broke e now =
      let plate = first.each 0 (omega arith) in
      record {
        known = omega arith;
        breaks = breaks_next (plate_file (targets outputs report) planes 0 ∷ []) (record { name = report; bytes = text }) [] (rack_at a 0) (rack_at b 0) (rack_at c 0) e plate.keeps (plates_whole 0 (omega arith)) now;
        once = once_before (rack_at a 0).faults (rack_at b 0).faults (rack_at c 0).faults plate.well now.once;
        others = report_others;
        whole = λ is k other less. subst (λ (r : RackState). WritesAll (plate_file (targets outputs report) planes k ∷ []) (rack_at a k) r) (sym (others k other)) (plates_whole k less);
      }

-- The planes and then the report are written, or the report breaks.
module _ (outputs : List (List ℕ)) (report : List ℕ) (planes : List Plane) (text : List ℕ) (a b c : List RackState) (some : 1 ≤ length outputs) where
  pub sheet_wrote : WritesPlates outputs planes a b (Ok tt) → WritesFile {T = Unit {0}} {E = DeviceError} report text (rack_at b 0) (rack_at c 0) (Ok tt) → ((j : ℕ) → j ≢ 0 → rack_at c j ≡ rack_at b j) → WritesSheet (targets outputs report) planes text a c (Ok tt)
  sheet_wrote (WritesPlates.wrote is first) now others = WritesSheet.wrote refl (all_wrote outputs report planes text a b c some first others tt now) (all_keeps outputs report planes text a b c some first others (Ok tt) now)
  sheet_wrote (WritesPlates.broke k between failed is known first at rest) now others = absurd (cc)

  pub report_failed : (failed : DeviceError) → WritesPlates outputs planes a b (Ok tt) → WritesFile {T = Unit {0}} report text (rack_at b 0) (rack_at c 0) (Err failed) → ((j : ℕ) → j ≢ 0 → rack_at c j ≡ rack_at b j) → WritesSheet (targets outputs report) planes text a c (Err (Common (Write None)))
  report_failed failed (WritesPlates.wrote is first) now others = WritesSheet.broke None refl (report_broke outputs report planes text a b c some first others failed now) (all_keeps outputs report planes text a b c some first others (Err failed) now)
  report_failed failed (WritesPlates.broke k between e is known first at rest) now others = absurd (cc)

-- A plane could not be written.
pub plates_failed : (outputs : List (List ℕ)) (report : List ℕ) (planes : List Plane) (text : List ℕ) (a b : List RackState) (error : TrapsheetError) → WritesPlates outputs planes a b (Err error) → WritesSheet (targets outputs report) planes text a b (Err error)
plates_failed outputs report planes text a b error (WritesPlates.wrote is first) = absurd (cc)
plates_failed outputs report planes text a b error (WritesPlates.broke k between failed is known first at rest) =
    let same : error ≡ Common (Write (Some k)) = cc in
    WritesSheet.broke (Some k) (ap (λ (s : TrapsheetError). Err s) same) (plate_broke outputs report planes text k a between first b failed known at rest) (broke_keeps outputs report planes text k a between first b failed known at rest)

-- the step at a file, seen by the list of the files' names
pub at_output : {X T E : Type 0} (text : X → List ℕ) (names : List X) (planes : List Plane) (k : ℕ) (d : X) (e : Plane) (a b : RackState) (result : Result T E) → k < length names → k < length planes → WritesFile (text (get_or names k d)) (encoded (get_or planes k e)) a b result → WritesFile (name_at (map text names) k) (encoded (plane_at planes k)) a b result
at_output text names planes k d e a b result within stored now =
    subst (λ (name : List ℕ). WritesFile name (encoded (plane_at planes k)) a b result) (sym (get_or-map text names k d [] within))
    (subst (λ (p : Plane). WritesFile (text (get_or names k d)) (encoded p) a b result) (get_or_default planes k e no_plane stored) now)

-- racks that are as they were
pub racks_same : (target : Targets) (a : List RackState) → KeepsRacks target a a
racks_same target a = record {
  keeps = λ k. keeps_same (rack_at a k);
  reported = λ k tells. refl;
  asked = λ k. asks_none_of (rack_at a k).asked (rack_names target k);
  beyond = λ k more. refl;
}
