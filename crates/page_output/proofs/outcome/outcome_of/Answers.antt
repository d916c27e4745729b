-- outcome_of: traps a page by so many workers, in bands of so many rows, and reports what changed.
use Rattle.std.proofs.Common.{sym, subst}
use Rattle.page_model.specs.declared.parts.Counts.{Counts}
use Rattle.trap_report.specs.Report.{AreCounts}
use Rattle.trap_report.proofs.ReportLemmas.{counts_fit}
use Rattle.page_output.proofs.outcome.outcome_of.Goals as goal

pub report_trapped-requires : goal.report_trapped-requires
report_trapped-requires g c = record { counts = subst (λ (counts : Counts). AreCounts c.args.page.now counts) (sym c.in_ok-trapped.ensures.counts) (counts_fit c.args.page.now) }
