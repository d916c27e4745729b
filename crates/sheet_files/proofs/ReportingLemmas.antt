-- The report of a sheet, written from its counts and what is known of it without its tints.
use Rattle.std.proofs.Common.{◌≡◌, sym, ap, ◌∙◌}
use Rattle.sheet_geometry.specs.Outline.{outline_sheet}
use Rattle.page_model.specs.declared.parts.Counts.{Counts}
use Rattle.page_model.specs.declared.parts.PageParts.{PageParts}
use Rattle.page_model.specs.Counts.{page_counts}
use Rattle.sheet_stream.specs.Reports.{ReportIsOutline}
use Rattle.sheet_engine.specs.Whole.{IsCounted}
use Rattle.sheet_engine.specs.declared.counts.SheetCounts.{SheetCounts}
use Rattle.trap_report.specs.Report.{AreCounts, report_of}
use Rattle.sheet_files.specs.Reporting.{sheet_report}

module _ (outline : PageParts) (counts : SheetCounts) (reported : Counts) (each : (sheet : PageParts) → IsCounted sheet counts → (reported ≡ page_counts sheet) × AreCounts sheet reported) where
  -- the report is that of the sheet
  pub report_is : ReportIsOutline → (sheet : PageParts) → outline_sheet sheet ≡ outline → IsCounted sheet counts → report_of outline reported ≡ sheet_report sheet
  report_is law sheet same counted =
      ap (λ (b : PageParts). report_of b reported) (sym same) ∙ law sheet reported ∙ ap (λ (c : Counts). report_of sheet c) (each sheet counted).0
