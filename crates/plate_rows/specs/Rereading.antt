-- A second reading of plates that were judged: each is begun once more, read row by row, and ended.
use Rattle.std.specs.Prelude.{◌≡◌, ◌≢◌, ◌⊎◌, ℕ, ◌+◌, ◌-◌, ◌<◌, ◌≤◌, List, [], length, map, take}
use Rattle.std.specs.Prelude.{drop, Result, Ok, Err}
use Rattle.std.specs.List.{All}
use Rattle.outside.specs.Tray.{TrayState}
use Rattle.page_model.specs.declared.parts.Plane.{Plane}
use Rattle.page_model.specs.Planes.{plane_at}
use Rattle.pgm_plates.specs.declared.bounds.Bounds.TheVariants.{Sheet}
use Rattle.pgm_plates.specs.declared.header.Header.{Header}
use Rattle.pgm_plates.specs.declared.plate.PlateFault.{PlateFault}
use Rattle.pgm_plates.specs.declared.plate.PlateError.{PlateError}
use Rattle.pgm_plates.specs.declared.plate.PlateError.TheVariants.{Fault, ReadFault}
use Rattle.pgm_plates.specs.declared.rows.OpenPlate.{OpenPlate}
use Rattle.pgm_plates.specs.Reading.{ReadsPlateWithin}
use Rattle.pgm_plates.specs.Rows.{EndsPlate, HasRead, ReadsRows, ReadsSome, samples_of}
use Rattle.plate_rows.specs.declared.rereading.NextRows.{NextRows}
use Rattle.plate_rows.specs.declared.error.RereadError.{RereadError}
use Rattle.plate_rows.specs.declared.error.RereadError.TheVariants.{Changed, Unread}
use Rattle.plate_rows.specs.Judging.{Refuses}
use Rattle.plate_rows.specs.Trays.{EachTray, IsCalm, TakesFiles, TrayStops, header_at, name_at}
use Rattle.plate_rows.specs.Trays.{open_at, tray_at}

-- So far these samples were read of each of the first plates, each by its own tray.
abbrev pub HaveRead : List (List ℕ) → List OpenPlate → ℕ → (ℕ → List ℕ) → List TrayState
    → List TrayState → Type 0
HaveRead names plates count samples = EachTray count
    (λ k before now. HasRead Sheet (name_at names k) before now (open_at plates k) (samples k))

-- The plate is begun once more, and has that header still.
pub record BeginsAgain (name : List ℕ) (header : Header) (plate : OpenPlate)
    (before after : TrayState) : Type 0 where
  pub read : HasRead Sheet name before after plate []
  pub same : plate.header ≡ header

-- The plate is begun once more, and has another header.
pub record BeginsOther (name : List ℕ) (header : Header) (before after : TrayState) : Type 0 where
  pub plate : OpenPlate
  pub read : HasRead Sheet name before after plate []
  pub other : plate.header ≢ header

-- The plate is not what it was: it has another header, or a fault.
abbrev pub HasChanged : List ℕ → Header → TrayState → TrayState → Type 0
HasChanged name header before after = BeginsOther name header before after
    ⊎ ((fault : PlateFault) × ReadsPlateWithin Sheet name before after (Err (Fault fault)))

-- what beginning plate k once more comes to
abbrev pub BeginsOne : List ℕ → Header → ℕ → TrayState → TrayState → Result OpenPlate RereadError
    → Type 0
BeginsOne name header k before after (Ok plate) = BeginsAgain name header plate before after
BeginsOne name header k before after (Err (Changed at)) =
    (at ≡ k) × HasChanged name header before after
BeginsOne name header k before after (Err (Unread at)) =
    (at ≡ k) × ReadsPlateWithin Sheet name before after (Err ReadFault)

-- where a second reading stops, by what plate k is refused for
abbrev pub error_at : ℕ → PlateError → RereadError
error_at k (Fault fault) = Changed k
error_at k other = Unread k

-- plate k is begun once more
abbrev pub BeginsAt : List (List ℕ) → List Header → List OpenPlate → ℕ → TrayState → TrayState
    → Type 0
BeginsAt names headers plates k before after =
    BeginsAgain (name_at names k) (header_at headers k) (open_at plates k) before after

-- plate k has changed
abbrev pub ChangesAt : List (List ℕ) → (ℕ → Header) → ℕ → TrayState → TrayState → Type 0
ChangesAt names header k before after = HasChanged (name_at names k) (header k) before after

-- The plates are begun once more, up to the first that has changed or cannot be read.
abbrev pub BeginsPlates : List (List ℕ) → List Header → List OpenPlate → List TrayState
    → List TrayState → Result (Unit {0}) RereadError → Type 0
BeginsPlates names headers plates before after (Ok done) =
    EachTray (length names) (BeginsAt names headers plates) before after
BeginsPlates names headers plates before after (Err (Changed k)) = TrayStops (length names) k
    (BeginsAt names headers plates) (ChangesAt names (header_at headers)) before after
BeginsPlates names headers plates before after (Err (Unread k)) = TrayStops (length names) k
    (BeginsAt names headers plates) (Refuses names ReadFault) before after

-- `done` samples of a plate were read, and `more` are to come.
pub record IsReadTo (plate : OpenPlate) (done more : ℕ) (now : TrayState) : Type 0 where
  pub name : List ℕ
  pub start : TrayState
  pub samples : List ℕ
  pub read : HasRead Sheet name start now plate samples
  pub count : length samples ≡ done
  pub workspace : done + more ≤ samples_of plate.header

-- the samples that these tints are, or the tints that these samples are
abbrev pub turned : ℕ → List ℕ → List ℕ
turned maxval values = map (λ v. maxval - v) values

-- The next samples of a plate are read and turned into these tints, or it is refused.
abbrev pub ReadsTints : OpenPlate → ℕ → List ℕ → TrayState → TrayState
    → Result (Unit {0}) PlateError → Type 0
ReadsTints plate done tints before after (Ok x) =
    ReadsRows plate done (turned plate.header.maxval tints) before after (Ok x)
    × All (λ t. t ≤ plate.header.maxval) tints
ReadsTints plate done tints before after (Err common_error) =
    ReadsSome plate done (length tints) before after (Err common_error)

-- The first tints are kept; all others are new, and none of them is above the maxval.
pub record AreFilled (most kept : ℕ) (old new : List ℕ) : Type 0 where
  pub full : length new ≡ length old
  pub first : take kept new ≡ take kept old
  pub below : All (λ t. t ≤ most) (drop kept new)

-- The same, after the tints that are kept.
abbrev pub ReadsAfter : OpenPlate → NextRows → List ℕ → List ℕ → TrayState → TrayState
    → Result (Unit {0}) PlateError → Type 0
ReadsAfter plate next old new before after (Ok x) =
    AreFilled plate.header.maxval next.kept old new
    × ReadsRows plate next.done (turned plate.header.maxval (drop next.kept new)) before after
    (Ok x)
ReadsAfter plate next old new before after (Err common_error) =
    ReadsSome plate next.done (length old - next.kept) before after (Err common_error)

-- A plane's tints are filled so, and all else of it stays.
pub record IsRefilled (most kept : ℕ) (old new : Plane) : Type 0 where
  pub width : new.width ≡ old.width
  pub height : new.height ≡ old.height
  pub maxval : new.maxval ≡ old.maxval
  pub tints : AreFilled most kept old.tints new.tints

-- The next samples of a plate are read into a plane, after the tints that are kept.
abbrev pub ReadsPlane : OpenPlate → NextRows → Plane → Plane → TrayState → TrayState
    → Result (Unit {0}) PlateError → Type 0
ReadsPlane plate next old new before after (Ok x) =
    IsRefilled plate.header.maxval next.kept old new
    × ReadsRows plate next.done (turned plate.header.maxval (drop next.kept new.tints)) before after
    (Ok x)
ReadsPlane plate next old new before after (Err common_error) =
    ReadsSome plate next.done (length old.tints - next.kept) before after (Err common_error)

-- how many tints of plane k are to be read, where `kept` are kept
abbrev pub wanted : ℕ → List Plane → ℕ → ℕ
wanted kept planes k = length (plane_at planes k).tints - kept

-- each plane is filled again, whose plates are these
abbrev pub AreRefilled : List OpenPlate → ℕ → List Plane → List Plane → Type 0
AreRefilled plates kept old new = (k : ℕ) → k < length plates
    → IsRefilled (open_at plates k).header.maxval kept (plane_at old k) (plane_at new k)

-- the new samples of plate k, out of the tints of plane k that are not kept
abbrev pub new_rows : List OpenPlate → ℕ → List Plane → ℕ → List ℕ
new_rows plates kept planes k =
    turned (open_at plates k).header.maxval (drop kept (plane_at planes k).tints)

-- The next samples of plate k are these.
abbrev pub ReadsOn : List OpenPlate → NextRows → List Plane → ℕ → TrayState → TrayState → Type 0
ReadsOn plates next planes k before after =
    ReadsRows (open_at plates k) next.done (new_rows plates next.kept planes k) before after (Ok tt)

-- As many samples of plate k are read as there is room for.
abbrev pub ReadsPast : List OpenPlate → ℕ → (ℕ → ℕ) → ℕ → TrayState → TrayState → Type 0
ReadsPast plates done count k before after =
    ReadsSome (open_at plates k) done (count k) before after (Ok tt)

-- The next samples of plate k have a fault.
abbrev pub FailsOn : List OpenPlate → ℕ → (ℕ → ℕ) → ℕ → TrayState → TrayState → Type 0
FailsOn plates done count k before after = (fault : PlateFault)
    × ReadsSome (open_at plates k) done (count k) before after (Err (Fault fault))

-- The next samples of plate k cannot be read.
abbrev pub BreaksOn : List OpenPlate → ℕ → (ℕ → ℕ) → ℕ → TrayState → TrayState → Type 0
BreaksOn plates done count k before after =
    ReadsSome (open_at plates k) done (count k) before after (Err ReadFault)

-- The next samples of each plate are read into the planes, after the tints that are kept, up to the
-- first plate that has a fault now or cannot be read.
abbrev pub ReadsNext : List OpenPlate → NextRows → List Plane → List Plane → List TrayState
    → List TrayState → Result (Unit {0}) RereadError → Type 0
ReadsNext plates next old new before after (Ok x) = AreRefilled plates next.kept old new
    × EachTray (length plates) (ReadsOn plates next new) before after
ReadsNext plates next old new before after (Err (Changed k)) = TrayStops (length plates) k
    (ReadsPast plates next.done (wanted next.kept old))
    (FailsOn plates next.done (wanted next.kept old)) before after
ReadsNext plates next old new before after (Err (Unread k)) = TrayStops (length plates) k
    (ReadsPast plates next.done (wanted next.kept old))
    (BreaksOn plates next.done (wanted next.kept old)) before after

-- Behind the last sample of plate k nothing stands.
abbrev pub EndsAt : List OpenPlate → ℕ → TrayState → TrayState → Type 0
EndsAt plates k before after = EndsPlate (open_at plates k) before after (Ok tt)

-- The plates are ended, up to the first that does not end there or cannot be read.
abbrev pub EndsPlates : List OpenPlate → List TrayState → List TrayState
    → Result (Unit {0}) RereadError → Type 0
EndsPlates plates before after (Ok done) =
    EachTray (length plates) (EndsAt plates) before after
EndsPlates plates before after (Err (Changed k)) = TrayStops (length plates) k (EndsAt plates)
    (λ j a b. (fault : PlateFault) × EndsPlate (open_at plates j) a b (Err (Fault fault)))
    before after
EndsPlates plates before after (Err (Unread k)) = TrayStops (length plates) k (EndsAt plates)
    (λ j a b. EndsPlate (open_at plates j) a b (Err ReadFault)) before after

-- The reading of `count` plates stops at plate k: the first files were opened, that one among them,
-- and no fault of another tray was passed over.
pub record Interrupts (names : List (List ℕ)) (count k : ℕ)
    (before after : List TrayState) : Type 0 where
  pub known : k < count
  pub begun : ℕ
  pub among : k < begun
  pub most : begun ≤ count
  pub takes : TakesFiles names begun before after
  pub calm : (j : ℕ) → j < k ⊎ k < j → IsCalm before after j

-- a second reading from its beginning to where it stops
abbrev pub StopsReading : List (List ℕ) → (ℕ → Header) → ℕ → List TrayState → List TrayState
    → RereadError → Type 0
StopsReading names header count before after (Changed k) = Interrupts names count k before after
    × ChangesAt names header k (tray_at before k) (tray_at after k)
StopsReading names header count before after (Unread k) = Interrupts names count k before after
    × Refuses names ReadFault k (tray_at before k) (tray_at after k)

-- .. where all plates were opened again before it stopped
pub record StopsBegun (names : List (List ℕ)) (header : ℕ → Header) (count : ℕ)
    (before after : List TrayState) (error : RereadError) : Type 0 where
  pub stops : StopsReading names header count before after error
  pub all : TakesFiles names count before after
