-- The report of a sheet looks at no tint.
use Rattle.std.specs.Prelude.{◌≡◌}
use Rattle.sheet_geometry.specs.Outline.{outline_sheet}
use Rattle.page_model.specs.declared.parts.Counts.{Counts}
use Rattle.page_model.specs.declared.parts.PageParts.{PageParts}
use Rattle.trap_report.specs.Report.{report_of}

-- With the same counts the report of a bare sheet is the sheet's.
abbrev pub ReportIsOutline : Type 0
ReportIsOutline = (sheet : PageParts) (counts : Counts)
    → report_of (outline_sheet sheet) counts ≡ report_of sheet counts
