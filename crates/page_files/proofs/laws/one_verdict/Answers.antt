-- one_verdict: the bytes of a page's files have one verdict at most.
use Rattle.page_files.specs.Inputs.{one_page}
use Rattle.page_files.proofs.VerdictLemmas.{one_verdict}
use Rattle.page_files.proofs.laws.one_verdict.Goals as goal

pub returns : goal.returns
returns c = one_verdict one_page (record { not_both = c.not_both.ensures; one_plate = c.one_plate.ensures; one_fault = c.one_fault.ensures })
