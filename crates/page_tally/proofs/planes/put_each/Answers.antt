-- put_each: puts the new tints of plate c into row y of its plane, block by block.
use Rattle.std.proofs.Common.{arith}
use Rattle.page_tally.proofs.StandingLemmas.{row_all, row_none}
use Rattle.page_tally.proofs.planes.put_each.Goals as goal

pub loop-x-init : goal.loop-x-init
loop-x-init c = record { inside = omega arith; plane = row_none c.args.page.now c.args.y c.args.c c.args.plane.now c.requires.plane }

pub returns : goal.returns
returns c = row_all c.args.page.now c.args.y c.args.c c.loop-x.x c.loop-x.plane (omega (arith, c.requires.after.long, c.loop-x-test.false, c.loop-x.invariant.inside)) c.loop-x.invariant.plane
