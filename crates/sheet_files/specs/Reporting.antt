-- The report of a sheet, and the counts of one of which all is known but its tints.
use Rattle.std.specs.Prelude.{◌≡◌, ℕ, List}
use Rattle.page_model.specs.Counts.{page_counts}
use Rattle.trap_report.specs.Report.{report_of}
use Rattle.sheet_geometry.specs.Outline.{outline_sheet}
use Rattle.page_model.specs.declared.parts.PageParts.{PageParts}
use Rattle.sheet_engine.specs.Whole.{IsCounted}
use Rattle.sheet_engine.specs.declared.counts.SheetCounts.{SheetCounts}

-- the report of a sheet
abbrev pub sheet_report : PageParts → List ℕ
sheet_report sheet = report_of sheet (page_counts sheet)

-- These are the counts of a sheet that is bare so.
pub record CountSome (outline : PageParts) (counts : SheetCounts) : Type 0 where
  pub sheet : PageParts
  pub same : outline_sheet sheet ≡ outline
  pub counted : IsCounted sheet counts
