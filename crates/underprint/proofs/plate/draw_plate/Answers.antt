-- draw_plate: one more row of new tints is put into the list.
use Rattle.keepaway.proofs.RowLemmas.{rows_next}
use Rattle.underprint.specs.Underprint.{kept}
use Rattle.underprint.proofs.plate.draw_plate.Goals as goal

pub loop-y-preserved : goal.loop-y-preserved
loop-y-preserved c = rows_next c.args.page.now (kept c.args.page.now c.args.whites.now c.args.c) c.loop-y.y c.loop-y.out c.put_tints.new.list c.write_row.new.out c.loop-y.invariant c.write_row.ensures c.put_tints.ensures.there c.put_tints.ensures.above c.put_tints.ensures.long
