-- faultless_law: a page has none of the faults for which parts are refused.
use Rattle.page_model.proofs.FaultLemmas.{faultless}
use Rattle.page_model.proofs.laws.faultless_law.Goals as goal

pub returns : goal.returns
returns c = faultless c.args.page.now c.plates-valid.ensures.valid
