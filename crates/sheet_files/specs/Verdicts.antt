-- What is to come of a sheet, by the bytes of its files. Nothing else is looked at.
use Rattle.std.specs.Prelude.{◌≡◌, ℕ, ◌<◌, All, List, length, Ok, Err}
use Rattle.job_reader.specs.Jobs.{job_of}
use Rattle.page_model.specs.declared.parts.PageParts.{PageParts}
use Rattle.common_errors.specs.declared.common.CommonError.TheVariants.{Job, NoDetails, Plate}
use Rattle.sheet_files.specs.Inputs.{StoredBytes, MakesSheet, PlateFails, Spells}
use Rattle.sheet_files.specs.declared.error.TrapsheetError.{TrapsheetError}
use Rattle.sheet_files.specs.declared.error.TrapsheetError.TheVariants.{Changed, Common, OfSheet}

-- what is to come
pub data SheetVerdict : Type 0 where
  -- the job, a plate or the sheet is refused
  Refused : TrapsheetError → SheetVerdict
  -- this sheet is to be trapped
  Accepted : PageParts → SheetVerdict

-- The job is judged first, then each plate in order, then what they make. Where a file that this
-- comes to is not there, there is no verdict.
abbrev pub IsSheetVerdict : StoredBytes → List (List ℕ) → SheetVerdict → Type 0
IsSheetVerdict stored names (Refused (Common (Job fault))) =
    Spells stored.job (λ bytes. job_of bytes ≡ Err fault)
IsSheetVerdict stored names (Refused (Common (Plate plate fault))) =
    PlateFails stored (length names) plate fault
IsSheetVerdict stored names (Refused (Common (NoDetails plate))) =
    MakesSheet stored names (Err (Common (NoDetails plate)))
IsSheetVerdict stored names (Refused (Common other)) = ⊥
IsSheetVerdict stored names (Refused (OfSheet common_error)) =
    MakesSheet stored names (Err (OfSheet common_error))
IsSheetVerdict stored names (Refused (Changed plate)) = ⊥
IsSheetVerdict stored names (Accepted sheet) = MakesSheet stored names (Ok sheet)

-- No two verdicts stand on the same bytes.
abbrev pub OneSheetVerdict : Type 0
OneSheetVerdict = (stored : StoredBytes) (names : List (List ℕ)) (one two : SheetVerdict)
    → IsSheetVerdict stored names one → IsSheetVerdict stored names two → one ≡ two

-- Where the job and all plates have files, of bytes, a verdict stands.
abbrev pub SomeSheetVerdict : Type 0
SomeSheetVerdict = (stored : StoredBytes) (names : List (List ℕ))
    → Spells stored.job (λ bytes. All (λ b. b < 256) bytes)
    → ((k : ℕ) → k < length names → Spells (stored.plate k) (λ bytes. All (λ b. b < 256) bytes))
    → (verdict : SheetVerdict) × IsSheetVerdict stored names verdict
