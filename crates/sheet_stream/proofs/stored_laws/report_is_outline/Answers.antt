-- report_is_bare: the report of a sheet is that of all of it but its tints.
use Rattle.sheet_stream.proofs.ReportLemmas.{report_same}
use Rattle.sheet_stream.proofs.stored_laws.report_is_outline.Goals as goal

pub returns : goal.returns
returns c = report_same
