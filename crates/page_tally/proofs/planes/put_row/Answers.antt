-- put_row: puts the new tints of row y into the planes.
use Rattle.std.proofs.Common.{arith}
use Rattle.page_tally.proofs.StandingLemmas.{trapping_all}
use Rattle.page_tally.proofs.planes.put_row.Goals as goal

pub returns : goal.returns
returns c = trapping_all c.args.page.now c.loop-c.planes c.args.y c.loop-c.c (omega arith) c.loop-c.invariant.planes
