-- Goals of trapped that want a lemma by name.
use Rattle.std.proofs.Common.{sym, subst}
use Rattle.page_model.specs.declared.parts.Counts.{Counts}
use Rattle.trap_report.specs.Report.{AreCounts}
use Rattle.trap_c.proofs.WorkLemmas.{counts_fit}
use Rattle.trap_c.proofs.work.trap_whole.Goals as goal

pub report-requires : goal.report-requires
report-requires c = subst (λ (counts : Counts). AreCounts c.args.page.now counts) (sym c.in_ok-planes.ensures.counts) (counts_fit c.args.page.now)
