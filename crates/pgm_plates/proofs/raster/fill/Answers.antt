-- fill: reads until the buffer is full, the file ends or a read fails, and says how many bytes are
-- there.
use Rattle.std.proofs.lemmas.Grind.{common_steps}
use Rattle.std.proofs.Common.{arith, ◌∙◌, ◌+◌, ◌-◌, ◌++◌, take, length, rules}
use borrow.Rule.Slice.PartMut.{put_mid}
use Rattle.outside.proofs.Steps.{takes_then, takes_as, takes_read, filled_more}
use Rattle.pgm_plates.proofs.raster.fill.Goals as goal

pub loop-done-preserved : goal.loop-done-preserved
loop-done-preserved g c =
    let done = c.loop-done.done in
    let n = c.in-Ok.count in
    let k = length c.loop-done.buf - done in
    let a = g.T.Tray.state c.args.tray.now in
    let b = g.T.Tray.state c.loop-done.tray in
    let d = g.T.Tray.state c.read.new.self in
    record {
      takes = takes_as (take done c.loop-done.buf ++ take n c.read.new.buf) (take (done + n) (put_mid done k c.loop-done.buf c.read.new.buf)) a d
          (filled_more c.loop-done.buf c.read.new.buf done k n c.loop-done.invariant.within c.in-Ok.ensures.within)
          (takes_then (take done c.loop-done.buf) (take n c.read.new.buf) a b d c.loop-done.invariant.takes (takes_read b d n c.read.new.buf c.in-Ok.ensures));
      count = c.in-Ok.ensures.well ∙ c.loop-done.invariant.count;
      within = search rules;
    }

pub returns-in-Ok-eq0-clause-takes : goal.returns-in-Ok-eq0-clause-takes
returns-in-Ok-eq0-clause-takes g c = grind (arith, common_steps)

pub returns-in-Err-clause-takes : goal.returns-in-Err-clause-takes
returns-in-Err-clause-takes g c = grind (arith, common_steps)
