-- Plates that are begun once more, read on and ended, one after the other.
use Rattle.std.proofs.Common.{◌≡◌, ◌≢◌, ℕ, ◌+◌, ◌-◌, ◌<◌, ◌≤◌, List, [], ◌∷◌, ◌++◌, length, map, take, drop, get_or, Result, Ok, Err, inl, inr, refl, sym, ap, ◌∙◌, subst, arith}
use Rattle.std.specs.Prelude.{slice_set}
use Rattle.std.specs.List.{All}
use Rattle.std.proofs.lemmas.Bool.{cases_eq}
use Rattle.std.proofs.Math.Seq.{drop-append_seam, take-append_seam}
use Rattle.std.proofs.lemmas.List.Elements.{All-append, All-drop, All-head, All-map, All-tail}
use Rattle.std.proofs.lemmas.List.{append_assoc, get_or_default, get_or-set_same, get_or-set_other, append-nil, drop_all, length-append, length-drop, length-map, length-set, length-take-le, map-append}
use Rattle.outside.specs.Tray.{TrayState}
use Rattle.page_model.specs.declared.parts.Plane.{Plane}
use Rattle.page_model.specs.Planes.{no_plane, plane_at}
use Rattle.pgm_plates.specs.declared.bounds.Bounds.{Bounds}
use Rattle.pgm_plates.specs.declared.bounds.Bounds.TheVariants.{Sheet}
use Rattle.pgm_plates.specs.declared.header.Header.{Header}
use Rattle.pgm_plates.specs.declared.plate.PlateError.{PlateError}
use Rattle.pgm_plates.specs.declared.plate.PlateError.TheVariants.{Fault, ReadFault, OutOfMemory}
use Rattle.pgm_plates.specs.declared.rows.OpenPlate.{OpenPlate}
use Rattle.pgm_plates.specs.Rows.{EndsPlate, HasRead, ReadsRows, ReadsSome, samples_of}
use Rattle.plate_rows.specs.declared.rereading.NextRows.{NextRows}
use Rattle.plate_rows.specs.declared.error.RereadError.{RereadError}
use Rattle.plate_rows.specs.declared.error.RereadError.TheVariants.{Changed, Unread}
use Rattle.plate_rows.specs.Judging.{Refuses}
use Rattle.plate_rows.specs.Rereading.{BeginsAgain, BeginsAt, BeginsOne, BeginsPlates, BreaksOn, ChangesAt, EndsAt, EndsPlates, FailsOn, IsReadTo, IsRefilled, ReadsNext, ReadsAfter, ReadsOn, ReadsPast, ReadsPlane, ReadsTints, new_rows, error_at, turned, wanted}
use Rattle.plate_rows.specs.Trays.{EachTray, TrayStops, header_at, name_at, no_open, no_tray, open_at}
use Rattle.plate_rows.proofs.EachLemmas.{each_as, set_more, set_stops, stops_as}

-- Samples that are turned into tints and back are as before.
turned_back : (m : ℕ) (xs : List ℕ) → All (λ s. s ≤ m) xs → turned m (turned m xs) ≡ xs
turned_back m [] fit = refl
turned_back m (x ∷ xs) fit =
    let head = All-head (λ (s : ℕ). s ≤ m) x xs fit in
    let back : m - (m - x) ≡ x = omega (arith, head) in
    ap (λ (n : ℕ). n ∷ turned m (turned m xs)) back ∙ ap (λ (l : List ℕ). x ∷ l) (turned_back m xs (All-tail (λ (s : ℕ). s ≤ m) x xs fit))

turned_fit : (m : ℕ) (xs : List ℕ) → All (λ t. t ≤ m) (turned m xs)
turned_fit m xs = All-map (λ (t : ℕ). t ≤ m) (λ (s : ℕ). m - s) xs (λ k d here. omega arith)

module _ (plate : OpenPlate) (done : ℕ) (rows : List ℕ) (a b : TrayState) (to : IsReadTo plate done (length rows) a) (reads : ReadsRows plate done rows a b (Ok tt)) where
  now_read : HasRead Sheet to.name to.start b plate (to.samples ++ rows)
  now_read = reads Sheet to.name to.start to.samples to.read to.count to.workspace

  -- no sample that is read is above the maxval
  pub rows_fit : All (λ s. s ≤ plate.header.maxval) rows
  rows_fit = subst (All (λ (s : ℕ). s ≤ plate.header.maxval)) (drop-append_seam to.samples rows) (All-drop (λ (s : ℕ). s ≤ plate.header.maxval) (length to.samples) (to.samples ++ rows) now_read.fit)

  pub rows_turned : ReadsTints plate done (turned plate.header.maxval rows) a b (Ok tt)
  rows_turned = (
    subst (λ (l : List ℕ). ReadsRows plate done l a b (Ok tt)) (sym (turned_back plate.header.maxval rows rows_fit)) reads,
    turned_fit plate.header.maxval rows,
  )

-- Of the samples that are wanted these are read and turned first, and then the next piece.
module _ (plate : OpenPlate) (done : ℕ) (first : List ℕ) (a b : TrayState) (reads : ReadsTints plate done first a b (Ok tt)) where
  rows : List ℕ
  rows = turned plate.header.maxval first

  as_many : length rows ≡ length first
  unfolding rows
  as_many = length-map first (λ (v : ℕ). plate.header.maxval - v)

  read_by_now : (more : ℕ) → done + (length first + more) ≤ samples_of plate.header → (bounds : Bounds) (name : List ℕ) (start : TrayState) (samples : List ℕ) → HasRead bounds name start a plate samples → length samples ≡ done → HasRead bounds name start b plate (samples ++ rows)
  unfolding rows
  read_by_now more workspace bounds name start samples has count = reads.0 bounds name start samples has count (omega (arith, as_many))

  counted : (samples : List ℕ) → length samples ≡ done → length (samples ++ rows) ≡ done + length first
  counted samples count = length-append samples rows ∙ omega (arith, as_many)

  -- the next piece can be read
  pub next_piece : (all want : ℕ) → length first + want ≤ all → IsReadTo plate done all a → IsReadTo plate (done + length first) want b
  next_piece all want few to =
      let workspace = to.workspace in
      record {
        name = to.name;
        start = to.start;
        samples = to.samples ++ rows;
        read = read_by_now want (omega (arith, workspace, few)) Sheet to.name to.start to.samples to.read to.count;
        count = counted to.samples to.count;
        workspace = omega (arith, workspace, few);
      }

  pub piece_turned : (part : List ℕ) (c : TrayState) → ReadsTints plate (done + length first) part b c (Ok tt) → ReadsTints plate done (first ++ part) a c (Ok tt)
  unfolding rows
  piece_turned part c more =
      let m = plate.header.maxval in
      let both : turned m (first ++ part) ≡ rows ++ turned m part = map-append (λ (v : ℕ). m - v) first part in
      let long : length (turned m part) ≡ length part = length-map part (λ (v : ℕ). m - v) in
      let reads_both : ReadsRows plate done (rows ++ turned m part) a c (Ok tt) = λ bounds name start samples has count workspace.
      let size = length-append rows (turned m part) in
      subst (HasRead bounds name start c plate) (append_assoc samples rows (turned m part))
      (more.0 bounds name start (samples ++ rows) (read_by_now (length part) (omega (arith, size, long, as_many, workspace)) bounds name start samples has count) (counted samples count) (omega (arith, size, long, as_many, workspace))) in (
        subst (λ (l : List ℕ). ReadsRows plate done l a c (Ok tt)) (sym both) reads_both,
        All-append (λ (t : ℕ). t ≤ m) first part reads.1 more.1,
      )

  -- Where a piece is refused, so are all samples that are wanted, whatever they are.
  pub piece_refused : (buf : List ℕ) (want : ℕ) (c : TrayState) (common_error : PlateError) → length first + want ≤ length buf → ReadsSome plate (done + length first) want b c (Err common_error) → ReadsSome plate done (length buf) a c (Err common_error)
  piece_refused buf want c common_error few some = (
    buf,
    refl,
    (λ bounds name start samples has count workspace.
        let long = some.1 in
        some.2 bounds name start (samples ++ rows) (read_by_now want (omega (arith, few, workspace)) bounds name start samples has count) (counted samples count) (omega (arith, few, workspace, long))),
  )

-- .. into the tints behind those that are kept
pub rows_read_after : (plate : OpenPlate) (next : NextRows) (buf part : List ℕ) (a b : TrayState) (result : Result (Unit {0}) PlateError) → next.kept ≤ length buf → length part ≡ length buf - next.kept → ReadsTints plate next.done part a b result → ReadsAfter plate next buf (take next.kept buf ++ part) a b result
rows_read_after plate next buf part a b (Ok x) kept size reads =
    let first : length (take next.kept buf) ≡ next.kept = length-take-le next.kept buf kept in
    let behind : drop next.kept (take next.kept buf ++ part) ≡ part = ap (λ (n : ℕ). drop n (take next.kept buf ++ part)) (sym first) ∙ drop-append_seam (take next.kept buf) part in
    let back = sym behind in (
      record {
        full = length-append (take next.kept buf) part ∙ ap (λ (n : ℕ). n + length part) first ∙ ap (λ (n : ℕ). next.kept + n) size ∙ omega arith;
        first = ap (λ (n : ℕ). take n (take next.kept buf ++ part)) (sym first) ∙ take-append_seam (take next.kept buf) part;
        below = subst (All (λ (t : ℕ). t ≤ plate.header.maxval)) back reads.1;
      },
      subst (λ (l : List ℕ). ReadsRows plate next.done (turned plate.header.maxval l) a b (Ok x)) back reads.0,
    )
rows_read_after plate next buf part a b (Err common_error) kept size reads = subst (λ (n : ℕ). ReadsSome plate next.done n a b (Err common_error)) size reads

-- nothing stands behind a part that reaches to the end
pub to_the_end : (buf part : List ℕ) (kept : ℕ) → kept ≤ length buf → part ++ drop (length buf - kept) (drop kept buf) ≡ part
to_the_end buf part kept le = ap (λ (l : List ℕ). part ++ l) (drop_all (length buf - kept) (drop kept buf) (omega (arith, length-drop kept buf))) ∙ append-nil part

-- .. and into a plane of these tints
pub plane_read : (plate : OpenPlate) (next : NextRows) (old : Plane) (tints : List ℕ) (a b : TrayState) (result : Result (Unit {0}) PlateError) → ReadsAfter plate next old.tints tints a b result → ReadsPlane plate next old (record { width = old.width; height = old.height; maxval = old.maxval; tints = tints }) a b result
plane_read plate next old tints a b (Ok x) reads = (record { width = refl; height = refl; maxval = refl; tints = reads.0 }, reads.1)
plane_read plate next old tints a b (Err common_error) reads = reads

module _ {X : Type 0} (f : X → TrayState) (names : List (List ℕ)) (headers : List Header) (plates : List OpenPlate) (a : List TrayState) (xs : List X) (k : ℕ) (d x : X) (within : k < length xs) (so_far : EachTray k (BeginsAt names headers plates) a (map f xs)) where
  pub one_begun : (plate : OpenPlate) → k < length plates → BeginsAgain (name_at names k) (header_at headers k) plate (f (get_or xs k d)) (f x) → EachTray (k + 1) (BeginsAt names headers (slice_set plates k plate)) a (map f (slice_set xs k x))
  one_begun plate stored here =
      let put = slice_set plates k plate in
      let so_far' = each_as no_tray k (BeginsAt names headers plates) (BeginsAt names headers put) a (map f xs)
      (λ j y z less does. let other : j ≢ k = omega arith in subst (λ (p : OpenPlate). BeginsAgain (name_at names j) (header_at headers j) p y z) (sym (get_or-set_other plates k j plate no_open other)) does) so_far in
      set_more f no_tray xs k d x within (BeginsAt names headers put) a so_far'
      (subst (λ (p : OpenPlate). BeginsAgain (name_at names k) (header_at headers k) p (f (get_or xs k d)) (f x)) (sym (get_or-set_same plates k plate no_open stored)) here)

  stopped : (Errors : ℕ → TrayState → TrayState → Type 0) → k < length names → Errors k (f (get_or xs k d)) (f x) → TrayStops (length names) k (BeginsAt names headers plates) Errors a (map f (slice_set xs k x))
  stopped Errors known here = set_stops f no_tray xs k d x within (BeginsAt names headers plates) Errors a (length names) known so_far here

  pub begun_stops : (error : RereadError) → k < length names → BeginsOne (name_at names k) (header_at headers k) k (f (get_or xs k d)) (f x) (Err error) → BeginsPlates names headers plates a (map f (slice_set xs k x)) (Err error)
  begun_stops (Changed at) known here =
      subst (λ (n : ℕ). TrayStops (length names) n (BeginsAt names headers plates) (ChangesAt names (header_at headers)) a (map f (slice_set xs k x))) (sym here.0) (stopped (ChangesAt names (header_at headers)) known here.1)
  begun_stops (Unread at) known here =
      subst (λ (n : ℕ). TrayStops (length names) n (BeginsAt names headers plates) (Refuses names ReadFault) a (map f (slice_set xs k x))) (sym here.0) (stopped (Refuses names ReadFault) known here.1)

-- the plane of a place, whatever stands where there is none
pub plane_there : (planes : List Plane) (k : ℕ) (d : Plane) → k < length planes → get_or planes k d ≡ plane_at planes k
plane_there planes k d stored = get_or_default planes k d no_plane stored

-- what stands after some planes were filled
pub record NextSoFar (plates : List OpenPlate) (next : NextRows) (k : ℕ) (old now : List Plane) (a b : List TrayState) : Type 0 where
  pub read : EachTray k (ReadsOn plates next now) a b
  pub filled : (j : ℕ) → j < k → IsRefilled (open_at plates j).header.maxval next.kept (plane_at old j) (plane_at now j)
  pub rest : (j : ℕ) → k ≤ j → plane_at now j ≡ plane_at old j
  pub many : length now ≡ length old

module _ {X : Type 0} (f : X → TrayState) (plates : List OpenPlate) (next : NextRows) (old now : List Plane) (a : List TrayState) (xs : List X) (k : ℕ) (d x : X) (within : k < length xs) (so_far : NextSoFar plates next k old now a (map f xs)) where
  module _ (plane : Plane) (stored : k < length now) where
    put_here : plane_at (slice_set now k plane) k ≡ plane
    put_here = get_or-set_same now k plane no_plane stored

    put_other : (j : ℕ) → j ≢ k → plane_at (slice_set now k plane) j ≡ plane_at now j
    put_other j other = get_or-set_other now k j plane no_plane other

    filled_to : IsRefilled (open_at plates k).header.maxval next.kept (plane_at old k) plane → (j : ℕ) → j < k + 1 → IsRefilled (open_at plates j).header.maxval next.kept (plane_at old j) (plane_at (slice_set now k plane) j)
    filled_to here j less = elim (cases_eq j k) [
      | inl same ↦ subst (λ (n : ℕ). IsRefilled (open_at plates n).header.maxval next.kept (plane_at old n) (plane_at (slice_set now k plane) n)) (sym same) (subst (IsRefilled (open_at plates k).header.maxval next.kept (plane_at old k)) (sym put_here) here)
      | inr other ↦ (let below : j < k = omega arith in subst (IsRefilled (open_at plates j).header.maxval next.kept (plane_at old j)) (sym (put_other j other)) (so_far.filled j below))
    ]

    pub one_filled : ReadsPlane (open_at plates k) next (plane_at old k) plane (f (get_or xs k d)) (f x) (Ok tt) → NextSoFar plates next (k + 1) old (slice_set now k plane) a (map f (slice_set xs k x))
    one_filled here =
        let put = slice_set now k plane in
        let rows = λ (p : Plane). turned (open_at plates k).header.maxval (drop next.kept p.tints) in
        let so_far' = each_as no_tray k (ReadsOn plates next now) (ReadsOn plates next put) a (map f xs)
        (λ j y z less does. let other : j ≢ k = omega arith in
        subst (λ (p : Plane). ReadsRows (open_at plates j) next.done (turned (open_at plates j).header.maxval (drop next.kept p.tints)) y z (Ok tt)) (sym (put_other j other)) does) so_far.read in
        record {
          read = set_more f no_tray xs k d x within (ReadsOn plates next put) a so_far'
              (subst (λ (p : Plane). ReadsRows (open_at plates k) next.done (rows p) (f (get_or xs k d)) (f x) (Ok tt)) (sym put_here) here.1);
          filled = filled_to here.0;
          rest = λ j more. (let other : j ≢ k = omega arith in put_other j other ∙ so_far.rest j (omega arith));
          many = length-set now k plane ∙ so_far.many;
        }

  past : (j : ℕ) (y z : TrayState) → j < k → ReadsOn plates next now j y z → ReadsPast plates next.done (wanted next.kept old) j y z
  past j y z less does =
      let m = (open_at plates j).header.maxval in
      let tints = (plane_at now j).tints in
      let long : length (new_rows plates next.kept now j) ≡ wanted next.kept old j =
      length-map (drop next.kept tints) (λ (v : ℕ). m - v) ∙ length-drop next.kept tints ∙ ap (λ (n : ℕ). n - next.kept) (so_far.filled j less).tints.full in
      (new_rows plates next.kept now j, long, does)

  stops : (Errors : ℕ → TrayState → TrayState → Type 0) → k < length plates → Errors k (f (get_or xs k d)) (f x) → TrayStops (length plates) k (ReadsPast plates next.done (wanted next.kept old)) Errors a (map f (slice_set xs k x))
  stops Errors known here =
      stops_as no_tray (length plates) k (ReadsOn plates next now) Errors (ReadsPast plates next.done (wanted next.kept old)) Errors a (map f (slice_set xs k x)) past (λ y z does. does)
      (set_stops f no_tray xs k d x within (ReadsOn plates next now) Errors a (length plates) known so_far.read here)

  pub next_stops : (new : List Plane) (common_error : PlateError) → (◌≡◌ {A = Result (Unit {0}) PlateError} (Err common_error) (Err OutOfMemory) → ⊥) → k < length plates → ReadsSome (open_at plates k) next.done (wanted next.kept old k) (f (get_or xs k d)) (f x) (Err common_error) → ReadsNext plates next old new a (map f (slice_set xs k x)) (Err (error_at k common_error))
  next_stops new (Fault fault) memory known here = stops (FailsOn plates next.done (wanted next.kept old)) known (fault, here)
  next_stops new ReadFault memory known here = stops (BreaksOn plates next.done (wanted next.kept old)) known here
  next_stops new OutOfMemory memory known here = absurd (memory refl)

module _ {X : Type 0} (f : X → TrayState) (plates : List OpenPlate) (a : List TrayState) (xs : List X) (k : ℕ) (d x : X) (within : k < length xs) (so_far : EachTray k (EndsAt plates) a (map f xs)) where
  pub one_ended : EndsAt plates k (f (get_or xs k d)) (f x) → EachTray (k + 1) (EndsAt plates) a (map f (slice_set xs k x))
  one_ended here = set_more f no_tray xs k d x within (EndsAt plates) a so_far here

  pub ends_error : (common_error : PlateError) → (◌≡◌ {A = Result (Unit {0}) PlateError} (Err common_error) (Err OutOfMemory) → ⊥) → k < length plates → EndsPlate (open_at plates k) (f (get_or xs k d)) (f x) (Err common_error) → EndsPlates plates a (map f (slice_set xs k x)) (Err (error_at k common_error))
  ends_error (Fault fault) memory known here = set_stops f no_tray xs k d x within (EndsAt plates) _ a (length plates) known so_far (fault, here)
  ends_error ReadFault memory known here = set_stops f no_tray xs k d x within (EndsAt plates) _ a (length plates) known so_far here
  ends_error OutOfMemory memory known here = absurd (memory refl)
