-- locality_law: a sample without a decider, or whose decider is not within, keeps its tints.
use Rattle.page_model.proofs.ReachLaws.{keeps_unless_within, keeps_by_edges}
use Rattle.page_model.proofs.laws.locality_law.Goals as goal

pub returns-clause-decider : goal.returns-clause-decider
returns-clause-decider c = keeps_unless_within c.args.page.now c.args.p

pub returns-clause-edges : goal.returns-clause-edges
returns-clause-edges c = keeps_by_edges c.args.page.now c.args.p c.plates-valid.ensures.valid
