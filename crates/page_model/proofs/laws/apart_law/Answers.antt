-- apart_law: whether two samples are apart does not depend on their order.
use Rattle.page_model.proofs.DensityLemmas.{apart_comm}
use Rattle.page_model.proofs.laws.apart_law.Goals as goal

pub returns : goal.returns
returns c = apart_comm c.args.page.now c.args.zone c.args.p c.args.q
