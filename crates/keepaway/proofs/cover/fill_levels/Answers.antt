-- fill_levels: one more row is put into the list.
use Rattle.keepaway.specs.Keepaway.{level}
use Rattle.keepaway.proofs.RowLemmas.{rows_next}
use Rattle.keepaway.proofs.cover.fill_levels.Goals as goal

pub loop-y-preserved : goal.loop-y-preserved
loop-y-preserved c = rows_next c.args.page.now (level c.args.page.now c.args.limit) c.loop-y.y c.loop-y.levels c.put_row.new.list c.write_levels.new.levels c.loop-y.invariant c.write_levels.ensures c.put_row.ensures.there c.put_row.ensures.above c.put_row.ensures.long
