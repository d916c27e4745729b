-- fill_marks: one more row is put into the list.
use Rattle.keepaway.proofs.RowLemmas.{rows_next}
use Rattle.underprint.specs.Lists.{mark}
use Rattle.underprint.proofs.cover.fill_marks.Goals as goal

pub loop-y-preserved : goal.loop-y-preserved
loop-y-preserved c = rows_next c.args.page.now (mark c.args.page.now c.args.whites.now) c.loop-y.y c.loop-y.marks c.put_row.new.list c.write_marks.new.marks c.loop-y.invariant c.write_marks.ensures c.put_row.ensures.there c.put_row.ensures.above c.put_row.ensures.long
