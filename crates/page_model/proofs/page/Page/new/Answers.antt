-- Page::new: the page of these parts, or the first of their faults.
use Rattle.std.proofs.Common.{sym}
use Rattle.page_model.proofs.FaultLemmas.{page_from}
use Rattle.page_model.proofs.page.Page.new.Goals as goal

pub invariant_of-result : goal.invariant_of-result
invariant_of-result c = page_from c.args.parts c.requires (sym c.in-None.ensures)
