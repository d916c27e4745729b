-- The new tints of a sheet, as the racks' files have them.
use Rattle.std.specs.Prelude.{◌≡◌, ℕ, ◌+◌, ◌*◌, ◌<◌, IsTrue, List, [], ◌∷◌, ◌++◌, take, Ok}
use Rattle.outside.specs.ErrorCases.{Asks}
use Rattle.outside.specs.Rack.{RackState, KeepsRack, put}
use Rattle.page_model.specs.declared.parts.PageParts.{PageParts}
use Rattle.page_model.specs.Page.{width}
use Rattle.pgm_plates.specs.declared.header.Header.{Header}
use Rattle.pgm_plates.specs.Rows.{HasWritten, spelled_so_far}
use Rattle.sheet_geometry.specs.Areas.{traps}
use Rattle.sheet_geometry.specs.StripCores.{new_from}
use Rattle.plate_rows.specs.Images.{HaveWritten, WritesNext, part_at}
use Rattle.sheet_stream.specs.Growing.{new_rows}

-- The new tints of some first rows of a sheet are written of each of the first plates.
abbrev pub RowsAreWritten : List (List ℕ) → Header → ℕ → PageParts → ℕ → List RackState
    → List RackState → Type 0
RowsAreWritten outputs header count sheet rows =
    HaveWritten outputs header count (λ c. new_rows sheet c rows)

-- a row of each plate, one plate after the other
abbrev pub IsRowOf : PageParts → ℕ → ℕ → List ℕ → Type 0
IsRowOf sheet count row line = (c : ℕ) → c < count
    → part_at (width sheet) line c ≡ new_from traps sheet c (row * width sheet) (width sheet)

-- With the next row of each plate they are those of one row more.
abbrev pub RowIsWritten : Type 0
RowIsWritten = (outputs : List (List ℕ)) (header : Header) (count rows : ℕ) (sheet : PageParts)
    (line : List ℕ) (start before after : List RackState)
    → RowsAreWritten outputs header count sheet rows start before
    → IsRowOf sheet count rows line
    → WritesNext count header (part_at (width sheet) line) before after (Ok tt)
    → RowsAreWritten outputs header count sheet (rows + 1) start after

-- Of a file that was created a prefix of these bytes stands under its name. It is open still, and
-- all else is as it was.
pub record StandsInPart (name bytes : List ℕ) (before after : RackState) : Type 0 where
  pub keeps : KeepsRack before after
  pub asked : Asks before.asked after.asked (name ∷ [])
  pub reported : IsTrue before.tells → after.reported ≡ before.reported
  pub finished : after.finished ≡ before.finished
  pub is_open : IsTrue after.is_open
  pub part : IsTrue before.tells
      → (count : ℕ) × (after.file ≡ put name (take count bytes) before.file)
  pub well : after.faults ≡ before.faults

-- What was written of a plate so far is a prefix of the plate, whatever comes after it.
abbrev pub PartStands : Type 0
PartStands = (name : List ℕ) (header : Header) (tints rest : List ℕ) (before after : RackState)
    → HasWritten name header tints before after
    → StandsInPart name (spelled_so_far header (tints ++ rest)) before after
