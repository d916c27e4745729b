-- The report of a bare sheet, line by line.
use Rattle.std.proofs.Common.{◌≡◌, ℕ, zero, suc, List, ◌++◌, length, codes, slice_index, refl, ap, ◌∙◌}
use Rattle.sheet_geometry.specs.Outline.{outline_sheet}
use Rattle.sheet_geometry.proofs.OutlineLemmas.{height_is, maxval_is, plates_is, width_is}
use Rattle.page_model.specs.declared.parts.Counts.{Counts}
use Rattle.page_model.specs.declared.parts.PageParts.{PageParts}
use Rattle.page_model.specs.Page.{ink_at, plates}
use Rattle.common_errors.specs.Lines.{line}
use Rattle.trap_report.specs.Report.{edges_line, head_line, plate_line, plate_lines, title_line, zone_lines}
use Rattle.sheet_stream.specs.Reports.{ReportIsOutline}

lines_same : (sheet : PageParts) (counts : Counts) (n : ℕ) → plate_lines (outline_sheet sheet) counts n ≡ plate_lines sheet counts n
lines_same sheet counts zero = refl
lines_same sheet counts (suc n) = ap (λ (t : List ℕ). t ++ plate_line (ink_at sheet n).name (slice_index counts.plate_changed n)) (lines_same sheet counts n)

plates_same : (sheet : PageParts) (counts : Counts) → plate_lines (outline_sheet sheet) counts (plates (outline_sheet sheet)) ≡ plate_lines sheet counts (plates sheet)
plates_same sheet counts = lines_same sheet counts (plates (outline_sheet sheet)) ∙ ap (plate_lines sheet counts) (plates_is sheet)

pub report_same : ReportIsOutline
report_same sheet counts = λ i. title_line ++ head_line (width_is sheet i) (height_is sheet i) (maxval_is sheet i) (plates_is sheet i) ++ zone_lines counts (length sheet.zones) ++ edges_line counts.edges ++ plates_same sheet counts i ++ line (codes "end")
