-- What a second reading took so far, and what is so where it stops.
use Rattle.std.proofs.Common.{◌≡◌, ◌⊎◌, ℕ, ◌+◌, ◌-◌, ◌*◌, ◌<◌, ◌≤◌, List, [], ◌∷◌, ◌++◌, length, drop, Some, Result, Ok, Err, IsTrue, inl, inr, sym, ap, ◌∙◌, subst, arith}
use Rattle.std.proofs.Math.Seq.{take-append_seam}
use Rattle.std.proofs.lemmas.Bool.{cases_eq, cases_lt}
use Rattle.std.proofs.lemmas.Nat.{mul-le}
use Rattle.std.proofs.lemmas.List.{append_assoc, length-append, length-drop, length-map}
use Rattle.std.proofs.lemmas.Option.{same_Some}
use Rattle.outside.specs.ErrorCases.{Asks}
use Rattle.outside.specs.Tray.{TrayState, KeepsTray}
use Rattle.outside.proofs.Steps.{kept_tray}
use Rattle.page_model.specs.Planes.{plane_at}
use Rattle.pgm_plates.specs.declared.bounds.Bounds.TheVariants.{Sheet}
use Rattle.pgm_plates.specs.declared.header.Header.{Header}
use Rattle.pgm_plates.specs.declared.plate.Plate.{Plate as PlateRead}
use Rattle.pgm_plates.specs.declared.plate.PlateError.{PlateError}
use Rattle.pgm_plates.specs.declared.plate.PlateError.TheVariants.{Fault, ReadFault}
use Rattle.pgm_plates.specs.declared.rows.OpenPlate.{OpenPlate}
use Rattle.pgm_plates.specs.Faults.{IsFaultWithin}
use Rattle.pgm_plates.specs.Header.{IsHeader}
use Rattle.pgm_plates.specs.Laws.{FileFaultWithin, IsTopOf, NotBothWithin, TopOfFileWithin}
use Rattle.pgm_plates.specs.Plates.{raster, sample_size}
use Rattle.pgm_plates.specs.Reading.{IsWithinPlate, ReadsPlateWithin}
use Rattle.pgm_plates.specs.Rows.{EndsPlate, HasRead, ReadsSome, plate_with, samples_of}
use Rattle.pgm_plates.proofs.Decisions.{raster_size}
use Rattle.plate_rows.specs.declared.error.RereadError.{RereadError}
use Rattle.plate_rows.specs.declared.error.RereadError.TheVariants.{Changed, Unread}
use Rattle.plate_rows.specs.Judging.{Refuses}
use Rattle.plate_rows.specs.Laws.{AreReadTo, EndsError, NoChange, ReadingBegins, ReadingEnds, ReadingGrows, ReadingStops, RowsError, header_of}
use Rattle.plate_rows.specs.Rereading.{BeginsAt, BreaksOn, EndsAt, EndsPlates, FailsOn, HasChanged, HaveRead, Interrupts, ReadsPast, StopsBegun, new_rows, wanted}
use Rattle.plate_rows.specs.Trays.{IsCalm, TakesFile, TakesFiles, TrayStops, header_at, header_in, name_at, open_at, tray_at}

pub reading_begins : ReadingBegins
reading_begins names headers plates before after begins = record {
  each = λ k less. (begins.each k less).read;
  others = begins.others;
}

pub reading_grows : ReadingGrows
reading_grows names plates samples next old new start before after have to reads = record {
  each = λ k less.
      let m = (open_at plates k).header.maxval in
      let tints = (plane_at new k).tints in
      let long : length (new_rows plates next.kept new k) ≡ wanted next.kept old k =
      length-map (drop next.kept tints) (λ (v : ℕ). m - v) ∙ length-drop next.kept tints ∙ ap (λ (n : ℕ). n - next.kept) (reads.0 k less).tints.full in
      let workspace = to.workspace k less in
      reads.1.each k less Sheet (name_at names k) (tray_at start k) (samples k) (have.each k less) (to.count k less) (omega (arith, long, workspace));
  others = λ k more. reads.1.others k more ∙ have.others k more;
}

pub reading_ends : ReadingEnds
reading_ends names plates samples start before after have all ends = record {
  each = λ k less. ends.each k less Sheet (name_at names k) (tray_at start k) (samples k) (have.each k less) (all k less);
  others = λ k more. ends.others k more ∙ have.others k more;
}

-- what is taken of a file by a whole reading, or by one that is refused
pub taken_whole : (name : List ℕ) (a b : TrayState) (result : Result PlateRead PlateError) → ReadsPlateWithin Sheet name a b result → TakesFile name a b
taken_whole name a b result reads = record {
  keeps = reads.keeps;
  asked = reads.asked;
  bytes = reads.bytes;
  taken = reads.taken;
  few = reads.few;
}

-- The bytes of some samples are no more than those of all.
few_bytes : (maxval n some all long : ℕ) → long ≡ n + some * sample_size maxval → some ≤ all → long ≤ n + all * sample_size maxval + 1
few_bytes maxval n some all long size few = let more : some * sample_size maxval ≤ all * sample_size maxval = mul-le some (sample_size maxval) all (sample_size maxval) few (omega arith) in omega (arith, size, more)

-- what is taken of it row by row
module _ (name : List ℕ) (a b : TrayState) (plate : OpenPlate) (samples : List ℕ) (has : HasRead Sheet name a b plate samples) where
  so_far : List ℕ
  so_far = has.spelling ++ raster plate.header.maxval samples

  keeps : KeepsTray a b
  keeps = kept_tray a has.begun b has.begins.keeps (kept_tray has.begun has.headed b has.head.keeps has.rows.keeps)

  asked : Asks a.asked b.asked (name ∷ [])
  asked = subst (λ o. Asks a.asked o (name ∷ [])) (sym (has.rows.asked ∙ has.head.asked)) has.begins.asked

  within : IsWithinPlate so_far
  unfolding so_far
  within =
      let h = plate.header in
      let n = length has.spelling in
      let raster_long = raster_size h.maxval samples in
      let few = has.few in
      record {
        count = n;
        short = omega (arith, has.size, has.short);
        width = h.width;
        height = h.height;
        maxval = h.maxval;
        is_header = subst (λ (l : List ℕ). IsHeader l h.width h.height h.maxval) (sym (take-append_seam has.spelling (raster h.maxval samples))) has.is_header;
        few = few_bytes h.maxval n (length samples) (h.width * h.height) (length so_far) (length-append has.spelling (raster h.maxval samples) ∙ ap (λ (i : ℕ). n + i) raster_long) few;
      }

  pub taken_rows : TakesFile name a b
  unfolding so_far
  taken_rows = record {
    keeps = keeps;
    asked = asked;
    bytes = so_far;
    taken = λ begun tells.
        let reported : IsTrue has.begun.tells = has.begins.keeps.tells ∙ tells in
        has.begins.left tells ∙ ap (λ (x : List ℕ). Some x) (has.head.taken reported ∙ ap (λ (x : List ℕ). has.spelling ++ x) (has.rows.taken (has.head.keeps.tells ∙ reported)) ∙ sym (append_assoc has.spelling (raster plate.header.maxval samples) b.left));
    few = inr within;
  }

-- A plate that was read so far, or whole: its file was taken, and its tray had no fault.
pub record Went (name : List ℕ) (a b : TrayState) : Type 0 where
  pub takes : TakesFile name a b
  pub calm : b.faults ≡ a.faults

pub went_rows : (name : List ℕ) (a b : TrayState) (plate : OpenPlate) (samples : List ℕ) → HasRead Sheet name a b plate samples → Went name a b
went_rows name a b plate samples has = record { takes = taken_rows name a b plate samples has; calm = has.count }

pub went_whole : (name : List ℕ) (a b : TrayState) (plate : PlateRead) → ReadsPlateWithin Sheet name a b (Ok plate) → Went name a b
went_whole name a b plate reads = record { takes = taken_whole name a b (Ok plate) reads; calm = reads.count }

-- the files that were taken where plate k stops: of those before it and of its own
pub taken_to : (names : List (List ℕ)) (k : ℕ) (a b : List TrayState) → ((j : ℕ) → j < k → Went (name_at names j) (tray_at a j) (tray_at b j)) → TakesFile (name_at names k) (tray_at a k) (tray_at b k) → (j : ℕ) → j < k + 1 → TakesFile (name_at names j) (tray_at a j) (tray_at b j)
taken_to names k a b earlier here j less = elim (cases_eq j k) [
  | inl same ↦ subst (λ (n : ℕ). TakesFile (name_at names n) (tray_at a n) (tray_at b n)) (sym same) here
  | inr other ↦ (earlier j (omega arith)).takes
]

-- .. and of those after it too
taken_all : (names : List (List ℕ)) (k count : ℕ) (a b : List TrayState) → ((j : ℕ) → j < k → Went (name_at names j) (tray_at a j) (tray_at b j)) → TakesFile (name_at names k) (tray_at a k) (tray_at b k) → ((j : ℕ) → k < j → j < count → Went (name_at names j) (tray_at a j) (tray_at b j)) → (j : ℕ) → j < count → TakesFile (name_at names j) (tray_at a j) (tray_at b j)
taken_all names k count a b earlier here later j less = elim (cases_lt k j) [
  | inl after ↦ (later j after less).takes
  | inr up_to ↦ taken_to names k a b earlier here j (omega arith)
]

-- Where no plate after it was begun.
pub stops_there : (names : List (List ℕ)) (count k : ℕ) (a b : List TrayState) → k < count → ((j : ℕ) → j < k → Went (name_at names j) (tray_at a j) (tray_at b j)) → TakesFile (name_at names k) (tray_at a k) (tray_at b k) → ((j : ℕ) → k < j → tray_at b j ≡ tray_at a j) → Interrupts names count k a b
stops_there names count k a b known earlier here others = record {
  known = known;
  begun = k + 1;
  among = omega arith;
  most = omega arith;
  takes = record { each = taken_to names k a b earlier here; others = λ j more. others j (omega arith) };
  calm = λ j other. calm_at j other;
} where
  calm_at : (j : ℕ) → j < k ⊎ k < j → IsCalm a b j
  calm_at j (inl less) = (earlier j less).calm
  calm_at j (inr more) = ap (λ (t : TrayState). t.faults) (others j more)

-- Where all were begun.
stops_among : (names : List (List ℕ)) (count k : ℕ) (a b : List TrayState) → k < count → ((j : ℕ) → j < k → Went (name_at names j) (tray_at a j) (tray_at b j)) → TakesFile (name_at names k) (tray_at a k) (tray_at b k) → ((j : ℕ) → k < j → j < count → Went (name_at names j) (tray_at a j) (tray_at b j)) → ((j : ℕ) → count ≤ j → tray_at b j ≡ tray_at a j) → Interrupts names count k a b
stops_among names count k a b known earlier here later others = record {
  known = known;
  begun = count;
  among = known;
  most = omega arith;
  takes = record { each = taken_all names k count a b earlier here later; others = others };
  calm = λ j other. calm_at j other;
} where
  calm_after : (j : ℕ) → k < j → (j < count) ⊎ (count ≤ j) → IsCalm a b j
  calm_after j more (inl less) = (later j more less).calm
  calm_after j more (inr past) = ap (λ (t : TrayState). t.faults) (others j past)

  less_or_more : (j : ℕ) → (j < count) ⊎ (count ≤ j)
  less_or_more j = elim (cases_lt j count) [ inl less ↦ inl less | inr more ↦ inr (omega arith) ]

  calm_at : (j : ℕ) → j < k ⊎ k < j → IsCalm a b j
  calm_at j (inl less) = (earlier j less).calm
  calm_at j (inr more) = calm_after j more (less_or_more j)

taken_changed : (name : List ℕ) (header : Header) (a b : TrayState) → HasChanged name header a b → TakesFile name a b
taken_changed name header a b (inl other) = taken_rows name a b other.plate [] other.read
taken_changed name header a b (inr fault) = taken_whole name a b (Err (Fault fault.0)) fault.1

begun_before : (names : List (List ℕ)) (headers : List Header) (plates : List OpenPlate) (k : ℕ) (a b : List TrayState) → ((j : ℕ) → j < k → BeginsAt names headers plates j (tray_at a j) (tray_at b j)) → (j : ℕ) → j < k → Went (name_at names j) (tray_at a j) (tray_at b j)
begun_before names headers plates k a b begun j less = went_rows (name_at names j) (tray_at a j) (tray_at b j) (open_at plates j) [] (begun j less).read

pub reading_stops : ReadingStops
reading_stops names headers plates a b (Changed k) stops =
    (stops_there names (length names) k a b stops.known (begun_before names headers plates k a b stops.each) (taken_changed (name_at names k) (header_at headers k) (tray_at a k) (tray_at b k) stops.here) stops.others, stops.here)
reading_stops names headers plates a b (Unread k) stops =
    (stops_there names (length names) k a b stops.known (begun_before names headers plates k a b stops.each) (taken_whole (name_at names k) (tray_at a k) (tray_at b k) (Err ReadFault) stops.here) stops.others, stops.here)

-- All plates were read so far, and a call goes on with each of them.
module _ (names : List (List ℕ)) (plates : List OpenPlate) (samples : ℕ → List ℕ) (start before after : List TrayState) (have : HaveRead names plates (length plates) samples start before) where
  still : (k : ℕ) → ((j : ℕ) → k < j → tray_at after j ≡ tray_at before j) → (j : ℕ) → k < j → j < length plates → Went (name_at names j) (tray_at start j) (tray_at after j)
  still k others j more less =
      went_rows (name_at names j) (tray_at start j) (tray_at after j) (open_at plates j) (samples j)
      (subst (λ (t : TrayState). HasRead Sheet (name_at names j) (tray_at start j) t (open_at plates j) (samples j)) (sym (others j more)) (have.each j less))

  beyond : (k : ℕ) → k < length plates → ((j : ℕ) → k < j → tray_at after j ≡ tray_at before j) → (j : ℕ) → length plates ≤ j → tray_at after j ≡ tray_at start j
  beyond k known others j more = others j (omega arith) ∙ have.others j more

  module _ (done : ℕ) (count : ℕ → ℕ) (to : AreReadTo plates samples done count) where
    read_before : (k : ℕ) → k < length plates → ((j : ℕ) → j < k → ReadsPast plates done count j (tray_at before j) (tray_at after j)) → (j : ℕ) → j < k → Went (name_at names j) (tray_at start j) (tray_at after j)
    read_before k known reads j less =
        let within : j < length plates = omega arith in
        let rows = reads j less in
        let workspace = to.workspace j within in
        went_rows (name_at names j) (tray_at start j) (tray_at after j) (open_at plates j) (samples j ++ rows.0)
        (rows.2 Sheet (name_at names j) (tray_at start j) (samples j) (have.each j within) (to.count j within) (omega (arith, rows.1, workspace)))

    refused_at : (k : ℕ) → k < length plates → (common_error : PlateError) → ReadsSome (open_at plates k) done (count k) (tray_at before k) (tray_at after k) (Err common_error) → Refuses names common_error k (tray_at start k) (tray_at after k)
    refused_at k known common_error rows =
        let workspace = to.workspace k known in
        rows.2 Sheet (name_at names k) (tray_at start k) (samples k) (have.each k known) (to.count k known) (omega (arith, rows.1, workspace))

    rows_all : (k : ℕ) (common_error : PlateError) → k < length plates → ((j : ℕ) → j < k → ReadsPast plates done count j (tray_at before j) (tray_at after j)) → Refuses names common_error k (tray_at start k) (tray_at after k) → ((j : ℕ) → k < j → tray_at after j ≡ tray_at before j) → TakesFiles names (length plates) start after
    rows_all k common_error known reads refused others = record {
      each = taken_all names k (length plates) start after (read_before k known reads) (taken_whole (name_at names k) (tray_at start k) (tray_at after k) (Err common_error) refused) (still k others);
      others = beyond k known others;
    }

    rows_interrupt : (k : ℕ) (common_error : PlateError) → k < length plates → ((j : ℕ) → j < k → ReadsPast plates done count j (tray_at before j) (tray_at after j)) → Refuses names common_error k (tray_at start k) (tray_at after k) → ((j : ℕ) → k < j → tray_at after j ≡ tray_at before j) → Interrupts names (length plates) k start after
    rows_interrupt k common_error known reads refused others =
        stops_among names (length plates) k start after known (read_before k known reads) (taken_whole (name_at names k) (tray_at start k) (tray_at after k) (Err common_error) refused) (still k others) (beyond k known others)

    pub rows_changed : (k : ℕ) → TrayStops (length plates) k (ReadsPast plates done count) (FailsOn plates done count) before after → StopsBegun names (header_of plates) (length plates) start after (Changed k)
    rows_changed k stops =
        let refused = refused_at k stops.known (Fault stops.here.0) stops.here.1 in
        record {
          stops = (rows_interrupt k (Fault stops.here.0) stops.known stops.each refused stops.others, inr (stops.here.0, refused));
          all = rows_all k (Fault stops.here.0) stops.known stops.each refused stops.others;
        }

    pub rows_unread : (k : ℕ) → TrayStops (length plates) k (ReadsPast plates done count) (BreaksOn plates done count) before after → StopsBegun names (header_of plates) (length plates) start after (Unread k)
    rows_unread k stops =
        let refused = refused_at k stops.known ReadFault stops.here in
        record {
          stops = (rows_interrupt k ReadFault stops.known stops.each refused stops.others, refused);
          all = rows_all k ReadFault stops.known stops.each refused stops.others;
        }

  module _ (all : (k : ℕ) → k < length plates → length (samples k) ≡ samples_of (open_at plates k).header) where
    ended_before : (k : ℕ) → k < length plates → ((j : ℕ) → j < k → EndsAt plates j (tray_at before j) (tray_at after j)) → (j : ℕ) → j < k → Went (name_at names j) (tray_at start j) (tray_at after j)
    ended_before k known ends j less =
        let within : j < length plates = omega arith in
        went_whole (name_at names j) (tray_at start j) (tray_at after j) (plate_with (open_at plates j).header (samples j))
        (ends j less Sheet (name_at names j) (tray_at start j) (samples j) (have.each j within) (all j within))

    end_refused : (k : ℕ) → k < length plates → (common_error : PlateError) → EndsPlate (open_at plates k) (tray_at before k) (tray_at after k) (Err common_error) → Refuses names common_error k (tray_at start k) (tray_at after k)
    end_refused k known common_error ends = ends Sheet (name_at names k) (tray_at start k) (samples k) (have.each k known) (all k known)

    ends_all : (k : ℕ) (common_error : PlateError) → k < length plates → ((j : ℕ) → j < k → EndsAt plates j (tray_at before j) (tray_at after j)) → Refuses names common_error k (tray_at start k) (tray_at after k) → ((j : ℕ) → k < j → tray_at after j ≡ tray_at before j) → TakesFiles names (length plates) start after
    ends_all k common_error known ends refused others = record {
      each = taken_all names k (length plates) start after (ended_before k known ends) (taken_whole (name_at names k) (tray_at start k) (tray_at after k) (Err common_error) refused) (still k others);
      others = beyond k known others;
    }

    ends_interrupt : (k : ℕ) (common_error : PlateError) → k < length plates → ((j : ℕ) → j < k → EndsAt plates j (tray_at before j) (tray_at after j)) → Refuses names common_error k (tray_at start k) (tray_at after k) → ((j : ℕ) → k < j → tray_at after j ≡ tray_at before j) → Interrupts names (length plates) k start after
    ends_interrupt k common_error known ends refused others =
        stops_among names (length plates) k start after known (ended_before k known ends) (taken_whole (name_at names k) (tray_at start k) (tray_at after k) (Err common_error) refused) (still k others) (beyond k known others)

    pub ends_stopped : (error : RereadError) → EndsPlates plates before after (Err error) → StopsBegun names (header_of plates) (length plates) start after error
    ends_stopped (Changed k) stops =
        let refused = end_refused k stops.known (Fault stops.here.0) stops.here.1 in
        record {
          stops = (ends_interrupt k (Fault stops.here.0) stops.known stops.each refused stops.others, inr (stops.here.0, refused));
          all = ends_all k (Fault stops.here.0) stops.known stops.each refused stops.others;
        }
    ends_stopped (Unread k) stops =
        let refused = end_refused k stops.known ReadFault stops.here in
        record {
          stops = (ends_interrupt k ReadFault stops.known stops.each refused stops.others, refused);
          all = ends_all k ReadFault stops.known stops.each refused stops.others;
        }

pub rows_error : RowsError
rows_error names plates samples next old new start before after (Changed k) have to stops = rows_changed names plates samples start before after have next.done (wanted next.kept old) to k stops
rows_error names plates samples next old new start before after (Unread k) have to stops = rows_unread names plates samples start before after have next.done (wanted next.kept old) to k stops

pub ends_error : EndsError
ends_error names plates samples start before after error have all stops = ends_stopped names plates samples start before after have all error stops

-- The header of a plate's top is the plate's.
same_header : (plate : PlateRead) (header : Header) (samples : List ℕ) → IsTopOf plate header samples → header ≡ header_in plate
same_header plate header samples top =
    ap (λ (n : ℕ). record { width = n; height = header.height; maxval = header.maxval }) top.width
    ∙ ap (λ (n : ℕ). record { width = plate.width; height = n; maxval = header.maxval }) top.height
    ∙ ap (λ (n : ℕ). record { width = plate.width; height = plate.height; maxval = n }) top.maxval

pub no_change : FileFaultWithin Sheet → NotBothWithin Sheet → TopOfFileWithin Sheet → NoChange
no_change fault_law not_both top_law name header a b bytes plate (inl other) tells found file same =
    other.other (same_header plate other.plate.header [] (top_law name a b other.plate [] bytes plate other.read tells found file) ∙ same)
no_change fault_law not_both top_law name header a b bytes plate (inr fault) tells found file same =
    let there = fault_law name a b fault.0 fault.1 tells in
    let is : there.0 ≡ bytes = same_Some there.0 bytes (sym there.1 ∙ found) in
    not_both bytes plate fault.0 file (subst (λ (l : List ℕ). IsFaultWithin Sheet l fault.0) is there.2)
