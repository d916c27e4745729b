-- decider_law: the decider of a sample decides, and no deciding edge of the page is less in squared
-- distance, column and row.
use Rattle.page_model.proofs.DeciderLemmas.{decider_found, decider_none}
use Rattle.page_model.proofs.laws.decider_law.Goals as goal

pub returns-clause-found : goal.returns-clause-found
returns-clause-found c = decider_found c.args.page.now c.args.p c.plates-valid.ensures.valid

pub returns-clause-none : goal.returns-clause-none
returns-clause-none c = decider_none c.args.page.now c.args.p c.plates-valid.ensures.valid
