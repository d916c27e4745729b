-- page_outcome: a page after trapping by one thread.
use Rattle.std.proofs.Common.{sym, subst}
use Rattle.page_model.specs.declared.parts.Counts.{Counts}
use Rattle.trap_report.specs.Report.{AreCounts}
use Rattle.trap_report.proofs.ReportLemmas.{counts_fit}
use Rattle.sheet_files.proofs.outcome.page_outcome.Goals as goal

pub report-requires : goal.report-requires
report-requires c = subst (λ (counts : Counts). AreCounts c.args.page.now counts) (sym c.in_ok-trapped.ensures.counts) (counts_fit c.args.page.now)
