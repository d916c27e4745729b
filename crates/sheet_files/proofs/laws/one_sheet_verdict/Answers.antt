-- one_sheet_verdict: the bytes of a sheet's files have one verdict at most.
use Rattle.sheet_files.proofs.VerdictLemmas.{one_verdict}
use Rattle.sheet_files.proofs.laws.one_sheet_verdict.Goals as goal

pub returns : goal.returns
returns c = one_verdict c.not_both_within.ensures c.one_plate_within.ensures c.one_fault_within.ensures
