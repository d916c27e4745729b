-- What is to come of a command, by the bytes of its files. Nothing else is looked at.
use Rattle.std.specs.Prelude.{◌≡◌, ℕ, List, [], ◌∷◌, Option, Ok}
use Rattle.keep_pages.specs.KeptPages.{keep_report, kept_planes}
use Rattle.keep_words.specs.Words.{KeepWords}
use Rattle.keep_pages.specs.declared.uses.KeepUse.{KeepUse}
use Rattle.page_files.specs.Inputs.{Makes, one_page}
use Rattle.page_model.specs.declared.parts.PageParts.{PageParts}
use Rattle.page_files.specs.Files.{Written, page_files}
use Rattle.trapkeep_cli.specs.declared.reason.TrapkeepError.{TrapkeepError}
use Rattle.trapkeep_cli.specs.declared.reason.TrapkeepError.TheVariants.{NoCommand, Page, TooWide}
use Rattle.trapkeep_cli.specs.Commands.{IsUsed, IsWide, sources_of, written_plates}
use Rattle.page_files.specs.Verdicts.{Targets, IsVerdict as IsPageVerdict, Refused as page_refused}

-- what is to come
pub data Verdict : Type 0 where
  -- the job, a plate, the page or the width is refused
  Refused : TrapkeepError → Verdict
  -- these files are to be written, in this order
  Out : List Written → Verdict

-- the page is not judged for files of its own
abbrev pub no_files : Targets
no_files = record { outputs = []; report = [] }

-- the plates of a page whose inks are drawn back, and its report
abbrev pub keep_files : KeepWords → PageParts → KeepUse → List Written
keep_files words page used = page_files (written_plates words) (kept_planes page used)
    words.report (keep_report page used)

-- The job is judged first, then each plate in order, then what they make, and at last the width.
-- Where a file that this comes to is not there, there is no verdict.
abbrev pub IsVerdict : (List ℕ → Option (List ℕ)) → KeepWords → Verdict → Type 0
IsVerdict files words (Refused (Page error)) =
    IsPageVerdict one_page files (sources_of words) no_files (page_refused error)
IsVerdict files words (Refused TooWide) = (page : PageParts)
    × Makes one_page files (sources_of words) (Ok page) × IsWide words page
IsVerdict files words (Refused NoCommand) = ⊥
IsVerdict files words (Out written) = (page : PageParts) × (used : KeepUse)
    × Makes one_page files (sources_of words) (Ok page) × (IsWide words page → ⊥)
    × IsUsed words used × (written ≡ keep_files words page used)
