-- put_planes: when all planes are drawn back, they are the new ones.
use Rattle.std.proofs.Common.{arith}
use Rattle.keep_sheets.proofs.WorkspaceLemmas.{planes_all}
use Rattle.keep_sheets.proofs.workspace.put_planes.Goals as goal

pub returns : goal.returns
returns c = planes_all c.args.page.now c.args.used.now c.loop-c.planes c.loop-c.invariant.count (λ j l. c.loop-c.invariant.done j (omega (arith, l, c.loop-c-test.false, c.loop-c.invariant.end)))
