-- Outcome::into_trapped: the page after trapping, when all its rows are taken in.
use Rattle.page_tally.proofs.OutcomeLemmas.{counts_whole}
use Rattle.page_tally.proofs.StandingLemmas.{trapped_whole}
use Rattle.page_tally.proofs.outcome.Outcome.into_trapped.Goals as goal

pub returns-clause-planes : goal.returns-clause-planes
returns-clause-planes c = trapped_whole c.args.page.now c.args.self.planes c.requires.planes

pub returns-clause-counts : goal.returns-clause-counts
returns-clause-counts c = rw (c.from_vec.ensures, c.from_vec-2.ensures, c.from_vec-3.ensures) (counts_whole c.args.page.now c.args.self.zone_samples.items c.args.self.zone_changed.items c.args.self.plate_changed.items c.args.self.edges c.plates-valid.ensures.valid c.requires.zone_samples c.requires.zone_changed c.requires.edges c.requires.plate_changed)
