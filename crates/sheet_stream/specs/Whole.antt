-- A sheet that is read once more with all its rows.
use Rattle.std.specs.Prelude.{◌≡◌, ℕ, List, [], length, Result, Ok, Err}
use Rattle.outside.specs.Tray.{TrayState}
use Rattle.page_model.specs.declared.parts.PageParts.{PageParts}
use Rattle.page_model.specs.Page.{height, plates}
use Rattle.pgm_plates.specs.declared.bounds.Bounds.TheVariants.{Sheet}
use Rattle.pgm_plates.specs.declared.rows.OpenPlate.{OpenPlate}
use Rattle.pgm_plates.specs.Reading.{ReadsPlateWithin}
use Rattle.pgm_plates.specs.Rows.{plate_with}
use Rattle.plate_rows.specs.Rereading.{HaveRead, StopsReading}
use Rattle.plate_rows.specs.Trays.{EachTray, name_at}
use Rattle.plate_rows.specs.declared.error.RereadError.{RereadError}
use Rattle.sheet_stream.specs.Courses.{OfEach}
use Rattle.sheet_stream.specs.Second.{sheet_header}
use Rattle.sheet_stream.specs.RowReading.{HaveHeader}
use Rattle.sheet_geometry.specs.declared.spans.Span.{Span}

-- all rows of a sheet
abbrev pub all_rows : PageParts → Span
all_rows sheet =
    record { from = 0; wide = height sheet; skip = 0; core = height sheet }

-- Each plate was read whole once more: what is held is each sheet that begins with what was read.
pub record IsStored (inputs : List (List ℕ)) (outline stored : PageParts)
    (before after : List TrayState) : Type 0 where
  pub begun : List OpenPlate
  pub headers : HaveHeader outline begun
  pub samples : ℕ → List ℕ
  pub between : List TrayState
  pub read : HaveRead inputs begun (length begun) samples before between
  pub whole : EachTray (plates outline) (λ k a b. ReadsPlateWithin Sheet (name_at inputs k) a b
      (Ok (plate_with (sheet_header outline) (samples k)))) before after
  pub same : OfEach outline samples (λ sheet. stored ≡ sheet)

-- It is, or the reading stops.
abbrev pub HoldsSheet : List (List ℕ) → PageParts → PageParts → List TrayState → List TrayState
    → Result (Unit {0}) RereadError → Type 0
HoldsSheet inputs outline stored before after (Ok done) = IsStored inputs outline stored before after
HoldsSheet inputs outline stored before after (Err error) =
    StopsReading inputs (λ k. sheet_header outline) (plates outline) before after error

-- .. of plates that are begun, wherever that was
abbrev pub EndsStored : PageParts → List OpenPlate → PageParts → List TrayState → List TrayState
    → Result (Unit {0}) RereadError → Type 0
EndsStored outline begun stored before after result = (inputs : List (List ℕ)) (start : List TrayState)
    → HaveRead inputs begun (length begun) (λ k. []) start before
    → HoldsSheet inputs outline stored start after result
