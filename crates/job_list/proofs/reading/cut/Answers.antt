-- cut: what stands before the first LF, and what stands after it; `None` where there is none.
use Rattle.std.proofs.Common.{sym}
use Rattle.job_list.proofs.Cuts.{cut_there, nowhere}
use Rattle.job_list.proofs.reading.cut.Goals as goal

pub returns-in-Some : goal.returns-in-Some
returns-in-Some c = cut_there c.args.bytes.now c.in-Some.place (sym c.in-Some.ensures.value)

pub returns-in-None : goal.returns-in-None
returns-in-None c = nowhere c.args.bytes.now (sym c.in-None.ensures.value)
