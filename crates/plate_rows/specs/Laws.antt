-- What the steps of a reading and of a writing make of what was read and written so far.
use Rattle.std.specs.Prelude.{◌≡◌, ℕ, ◌+◌, ◌<◌, ◌≤◌, IsTrue, List, [], ◌++◌, length, Some, Ok}
use Rattle.std.specs.Prelude.{Err, take}
use Rattle.outside.specs.Rack.{RackState}
use Rattle.outside.specs.Tray.{TrayState}
use Rattle.page_model.specs.declared.parts.Plane.{Plane}
use Rattle.pgm_plates.specs.declared.bounds.Bounds.TheVariants.{Sheet}
use Rattle.pgm_plates.specs.declared.header.Header.{Header}
use Rattle.pgm_plates.specs.declared.plate.Plate.{Plate}
use Rattle.pgm_plates.specs.declared.rows.OpenPlate.{OpenPlate}
use Rattle.pgm_plates.specs.Plates.{IsPlateFileWithin}
use Rattle.pgm_plates.specs.Reading.{ReadsPlateWithin}
use Rattle.pgm_plates.specs.Rows.{HasWritten, plate_with, samples_of, spelled_so_far}
use Rattle.common_errors.specs.declared.common.CommonError.TheVariants.{Write}
use Rattle.plate_rows.specs.Images.{AreWritten, BreaksRows, EndsImages, HaveWritten}
use Rattle.plate_rows.specs.Images.{HoldsBytes, LeavesFiles, WritesNext}
use Rattle.plate_rows.specs.Rereading.{BeginsPlates, EndsPlates, HasChanged, HaveRead, ReadsNext}
use Rattle.plate_rows.specs.Rereading.{StopsBegun, StopsReading, new_rows, wanted}
use Rattle.plate_rows.specs.Trays.{EachTray, header_at, header_in, name_at, open_at}
use Rattle.plate_rows.specs.declared.rereading.NextRows.{NextRows}
use Rattle.plate_rows.specs.declared.error.RereadError.{RereadError}

-- A plate whose file the tray tells does not change.
abbrev pub NoChange : Type 0
NoChange = (name : List ℕ) (header : Header) (before after : TrayState) (bytes : List ℕ)
    (plate : Plate) → HasChanged name header before after → IsTrue before.tells
    → before.file name ≡ Some bytes → IsPlateFileWithin Sheet bytes plate
    → header_in plate ≡ header → ⊥

-- Plates that are begun once more have no sample read yet.
abbrev pub ReadingBegins : Type 0
ReadingBegins = (names : List (List ℕ)) (headers : List Header) (plates : List OpenPlate)
    (before after : List TrayState) → BeginsPlates names headers plates before after (Ok tt)
    → HaveRead names plates (length names) (λ k. []) before after

-- `done` samples of each of the first plates were read, and there are `more` of each to come
pub record AreReadTo (plates : List OpenPlate) (samples : ℕ → List ℕ) (done : ℕ)
    (more : ℕ → ℕ) : Type 0 where
  pub count : (k : ℕ) → k < length plates → length (samples k) ≡ done
  pub workspace : (k : ℕ) → k < length plates → done + more k ≤ samples_of (open_at plates k).header

-- What was read so far grows by the rows that are read.
abbrev pub ReadingGrows : Type 0
ReadingGrows = (names : List (List ℕ)) (plates : List OpenPlate) (samples : ℕ → List ℕ)
    (next : NextRows) (old new : List Plane) (start before after : List TrayState)
    → HaveRead names plates (length plates) samples start before
    → AreReadTo plates samples next.done (wanted next.kept old)
    → ReadsNext plates next old new before after (Ok tt)
    → HaveRead names plates (length plates) (λ k. samples k ++ new_rows plates next.kept new k)
    start after

-- After all their samples the plates are read whole.
abbrev pub ReadingEnds : Type 0
ReadingEnds = (names : List (List ℕ)) (plates : List OpenPlate) (samples : ℕ → List ℕ)
    (start before after : List TrayState)
    → HaveRead names plates (length plates) samples start before
    → ((k : ℕ) → k < length plates → length (samples k) ≡ samples_of (open_at plates k).header)
    → EndsPlates plates before after (Ok tt)
    → EachTray (length plates) (λ k a b. ReadsPlateWithin Sheet (name_at names k) a b
    (Ok (plate_with (open_at plates k).header (samples k)))) start after

-- Where a call of a second reading stops, this is so of the whole reading.
abbrev pub ReadingStops : Type 0
ReadingStops = (names : List (List ℕ)) (headers : List Header) (plates : List OpenPlate)
    (before after : List TrayState) (error : RereadError)
    → BeginsPlates names headers plates before after (Err error)
    → StopsReading names (header_at headers) (length names) before after error

-- the header of plate k
abbrev pub header_of : List OpenPlate → ℕ → Header
header_of plates k = (open_at plates k).header

-- .. where rows are read
abbrev pub RowsError : Type 0
RowsError = (names : List (List ℕ)) (plates : List OpenPlate) (samples : ℕ → List ℕ)
    (next : NextRows) (old new : List Plane) (start before after : List TrayState)
    (error : RereadError) → HaveRead names plates (length plates) samples start before
    → AreReadTo plates samples next.done (wanted next.kept old)
    → ReadsNext plates next old new before after (Err error)
    → StopsBegun names (header_of plates) (length plates) start after error

-- .. and where the plates are ended
abbrev pub EndsError : Type 0
EndsError = (names : List (List ℕ)) (plates : List OpenPlate) (samples : ℕ → List ℕ)
    (start before after : List TrayState) (error : RereadError)
    → HaveRead names plates (length plates) samples start before
    → ((k : ℕ) → k < length plates → length (samples k) ≡ samples_of (open_at plates k).header)
    → EndsPlates plates before after (Err error)
    → StopsBegun names (header_of plates) (length plates) start after error

-- What was written so far grows by the rows that are written.
abbrev pub WritingGrows : Type 0
WritingGrows = (names : List (List ℕ)) (header : Header) (count : ℕ) (tints rows : ℕ → List ℕ)
    (start before after : List RackState)
    → HaveWritten names header count tints start before
    → WritesNext count header rows before after (Ok tt)
    → HaveWritten names header count (λ k. tints k ++ rows k) start after

-- Where that fails at plate k, each file has a prefix of its bytes.
abbrev pub WritingBreaks : Type 0
WritingBreaks = (names : List (List ℕ)) (header : Header) (count k : ℕ) (tints rows : ℕ → List ℕ)
    (start before after : List RackState)
    → HaveWritten names header count tints start before
    → WritesNext count header rows before after (Err (Write (Some k)))
    → BreaksRows names header count k tints rows start after

-- What was written of each plate is the whole, where the files are finished.
abbrev pub WritingEnds : Type 0
WritingEnds = (names : List (List ℕ)) (header : Header) (count : ℕ) (tints : ℕ → List ℕ)
    (start before after : List RackState)
    → HaveWritten names header count tints start before
    → EndsImages count before after (Ok tt)
    → AreWritten names header count tints start after

-- Where a file cannot be finished, those before it are whole, and of each other stands a prefix.
abbrev pub WritingLeaves : Type 0
WritingLeaves = (names : List (List ℕ)) (header : Header) (count k : ℕ) (tints : ℕ → List ℕ)
    (start before after : List RackState)
    → HaveWritten names header count tints start before
    → EndsImages count before after (Err (Write (Some k)))
    → LeavesFiles names header count k tints start after

-- What was written so far is a prefix of the bytes of each plate that begins with these tints.
abbrev pub WritingHolds : Type 0
WritingHolds = (name : List ℕ) (header : Header) (tints more : List ℕ) (before now : RackState)
    → HasWritten name header tints before now
    → (let bytes = spelled_so_far header (tints ++ more) in
    HoldsBytes name (take (length (spelled_so_far header tints)) bytes) before now)
