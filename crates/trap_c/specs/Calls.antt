-- What a call does.
use Rattle.std.specs.Prelude.{◌≡◌, ◌≢◌, ◌⊎◌, ℕ, min, List, ◌++◌, ◌*◌, ◌≤◌, All, length, take, drop}
use Rattle.std.specs.Prelude.{Result, Ok, Err}
use Rattle.page_model.specs.declared.parts.PageParts.{PageParts}
use Rattle.page_model.specs.Conditions.{IsPlane}
use Rattle.page_model.specs.Counts.{page_counts}
use Rattle.page_model.specs.Page.{plates}
use Rattle.page_model.specs.Tints.{trapped_planes}
use Rattle.common_errors.specs.declared.common.CommonError.TheVariants.{Memory}
use Rattle.trap_report.specs.Report.{report_of}
use Rattle.common_errors.specs.Statuses.{done}
use Rattle.trap_c.specs.declared.layout.Layout.{Layout}
use Rattle.trap_c.specs.declared.error.CallError.{CallError}
use Rattle.trap_c.specs.declared.error.CallError.TheVariants.{Page}
use Rattle.trap_c.specs.declared.work.Done.{Done}
use Rattle.trap_c.specs.Pages.{Fills, call_page}
use Rattle.trap_c.specs.Planes.{KeepsGaps, planes_in}
use Rattle.trap_c.specs.Requests.{Asked}
use Rattle.trap_c.specs.Errors.{status_of_error, line_of_error}
use Rattle.page_model.specs.Limits.{most_plates}

-- As much of a text as fits is written to the start of a buffer, the rest of which stays, and the
-- whole length of the text is answered.
pub record Tells (text before after : List ℕ) (len : ℕ) : Type 0 where
  pub size : len ≡ length text
  pub put : let count = min (length text) (length before) in
      after ≡ take count text ++ drop count before

-- The planes in the samples are those of the page after trapping.
abbrev pub AreTrapped : PageParts → Layout → List ℕ → Type 0
AreTrapped page layout samples = planes_in layout samples (plates page) ≡ trapped_planes page

-- What a call has in hand before it writes: the planes of the page after trapping, which fit the
-- samples, and the text.
pub record IsWorked (most : ℕ) (layout : Layout) (before : List ℕ) (page : PageParts)
    (text : List ℕ) (work : Done) : Type 0 where
  pub planes : work.planes ≡ trapped_planes page
  pub report : work.report ≡ text
  pub laid_out : Fills layout (plates page) page
  pub all : length before ≡ plates page * layout.height * layout.step
  pub apart : layout.width ≤ layout.step
  pub few : plates page ≤ most_plates
  pub narrow : layout.maxval ≤ most
  pub in_range : All IsPlane (trapped_planes page)

-- The work for the page that was to be made; or why there is none, which may be that memory was
-- refused.
abbrev pub Works : ℕ → Layout → List ℕ → Result PageParts CallError → Result Done CallError → Type 0
Works most layout before made (Ok work) =
    (page : PageParts) × (made ≡ Ok page)
    × IsWorked most layout before page (report_of page (page_counts page)) work
Works most layout before made (Err error) = (error ≡ Page Memory) ⊎ (made ≡ Err error)

-- A call that is done: it was for a page, the samples hold the planes of that page after
-- trapping, what stands after the ends of rows stays, and the text is the report.
abbrev pub Succeeds : ℕ → Asked → List ℕ → List ℕ → List ℕ → List ℕ → ℕ → Type 0
Succeeds most asked before after text text' len =
    (page : PageParts)
    × (call_page most asked before ≡ Ok page)
    × AreTrapped page asked.layout after
    × KeepsGaps asked.layout before after
    × Tells (report_of page (page_counts page)) text text' len

-- A call that is refused: all samples stay, the status and the line are those of the error that
-- the arguments call for, or of memory that was refused.
abbrev pub Refuses : ℕ → Asked → List ℕ → List ℕ → List ℕ → List ℕ → ℕ → ℕ → Type 0
Refuses most asked before after text text' len status =
    (error : CallError)
    × (status ≡ status_of_error error)
    × (after ≡ before)
    × Tells (line_of_error error) text text' len
    × ((error ≡ Page Memory) ⊎ (call_page most asked before ≡ Err error))

-- What a call does to the samples, which hold numbers up to `most`, to the text and to its length,
-- by its status.
pub record Traps (most : ℕ) (asked : Asked) (before after text text' : List ℕ) (len status : ℕ)
    : Type 0 where
  pub success : status ≡ done → Succeeds most asked before after text text' len
  pub refused : status ≢ done → Refuses most asked before after text text' len status
