-- A page that was read, its inks drawn back, and its files written.
use Rattle.std.specs.Prelude.{◌≡◌, ℕ, ◌*◌, ◌≤◌, All, IsTrue, List, length, Result, Ok, Err}
use Rattle.keep_pages.specs.KeptPages.{keep_report, kept_planes}
use Rattle.keep_words.specs.Words.{KeepWords}
use Rattle.keep_pages.specs.declared.uses.KeepUse.{KeepUse}
use Rattle.outside.specs.ErrorCases.{AsksPrefix, RoseOnce}
use Rattle.outside.specs.Rack.{RackState, KeepsRack}
use Rattle.page_model.specs.declared.parts.PageParts.{PageParts}
use Rattle.page_model.specs.declared.parts.Plane.{Plane}
use Rattle.page_model.specs.Conditions.{IsPage, IsPlane}
use Rattle.page_model.specs.Limits.{most_samples}
use Rattle.page_model.specs.Page.{plates}
use Rattle.page_files.specs.Files.{names_of}
use Rattle.page_files.specs.Writing.{Breaks, WritesAll}
use Rattle.common_errors.specs.declared.common.CommonError.TheVariants.{Write, Memory}
use Rattle.trapkeep_cli.specs.declared.reason.TrapkeepError.{TrapkeepError}
use Rattle.trapkeep_cli.specs.declared.reason.TrapkeepError.TheVariants.{Page, TooWide}
use Rattle.trapkeep_cli.specs.Commands.{IsUsed, IsWide, written_names, written_plates}
use Rattle.trapkeep_cli.specs.Verdicts.{keep_files}

-- The files of this page are those of the words, which are not too wide for it.
pub record IsKept (words : KeepWords) (page : PageParts) (used : KeepUse) : Type 0 where
  pub is : IsUsed words used
  pub narrow : IsWide words page → ⊥
  pub named : names_of (keep_files words page used) ≡ written_names words

-- These planes and this report are those of the page, and the planes are in range.
pub record IsKeptPage (words : KeepWords) (page : PageParts) (planes : List Plane)
    (report : List ℕ) : Type 0 where
  pub used : KeepUse
  pub is : IsUsed words used
  pub planes_are : planes ≡ kept_planes page used
  pub report_is : report ≡ keep_report page used
  pub in_range : All IsPlane planes
  pub small : All (λ plane. plane.width * plane.height ≤ most_samples) planes
  pub as_many : length planes ≡ plates page

-- What the answer says where a page is put out.
abbrev pub AnswersPut : KeepWords → PageParts → RackState → RackState
    → Result (Unit {0}) TrapkeepError → Type 0
AnswersPut words page before after (Ok nothing) = (used : KeepUse) × IsKept words page used
    × WritesAll (keep_files words page used) before after
AnswersPut words page before after (Err (Page (Write file))) = (used : KeepUse)
    × IsKept words page used
    × Breaks (length (written_plates words)) (keep_files words page used) file before after
    × RoseOnce before.faults after.faults
AnswersPut words page before after (Err TooWide) = IsWide words page × (after ≡ before)
AnswersPut words page before after (Err (Page Memory)) = after ≡ before
AnswersPut words page before after (Err other) = ⊥

-- A page's inks are drawn back, and its files are written.
pub record PutsPage (words : KeepWords) (page : PageParts) (before after : RackState)
    (result : Result (Unit {0}) TrapkeepError) : Type 0 where
  pub valid : IsPage page
  pub keeps : KeepsRack before after
  pub reported : IsTrue before.tells → after.reported ≡ before.reported
  pub asked : AsksPrefix before.asked after.asked (written_names words)
  pub answer : AnswersPut words page before after result
