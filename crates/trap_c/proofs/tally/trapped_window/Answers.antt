-- Goals of trapped_window that want a lemma by name.
use Rattle.trap_c.specs.Places.{core_of}
use Rattle.trap_c.proofs.CoreCounts.{core_counts_fit, few_counts}
use Rattle.trap_c.proofs.tally.trapped_window.Goals as goal

pub sided_report-requires : goal.sided_report-requires
sided_report-requires c = core_counts_fit c.args.page.now (core_of c.args.place.now) c.in_ok-planes.field-0.counts c.in_ok-planes.ensures.counts

pub returns-clause-few : goal.returns-clause-few
returns-clause-few c = few_counts c.args.page.now (core_of c.args.place.now) c.in_ok-planes.field-0.counts c.plates-valid.ensures.valid c.in_ok-planes.ensures.counts
