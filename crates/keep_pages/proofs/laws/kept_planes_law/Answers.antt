-- kept_planes_law: the planes of a page are in range afterwards.
use Rattle.keep_pages.proofs.PlaneLemmas.{few_in_planes, planes_count, planes_in_range}
use Rattle.keep_pages.proofs.laws.kept_planes_law.Goals as goal

pub returns-clause-planes : goal.returns-clause-planes
returns-clause-planes c = planes_in_range c.args.page.now c.args.used.now c.plates-valid.ensures.valid

pub returns-clause-samples : goal.returns-clause-samples
returns-clause-samples c = few_in_planes c.args.page.now c.args.used.now c.plates-valid.ensures.valid

pub returns-clause-count : goal.returns-clause-count
returns-clause-count c = planes_count c.args.page.now c.args.used.now
