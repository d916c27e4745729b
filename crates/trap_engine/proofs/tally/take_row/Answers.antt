-- take_row: counts in row y, out of the cells of a table whose pieces are done.
use Rattle.std.proofs.Common.{arith}
use Rattle.std.proofs.lemmas.List.{with_items_is}
use Rattle.std.proofs.lemmas.Grind.{common_steps}
use Rattle.trap_engine.proofs.TableRows.{row_marks, row_zones}
use Rattle.trap_engine.proofs.tally.take_row.Goals as goal

pub count_row-requires-clause-zones : goal.count_row-requires-clause-zones
count_row-requires-clause-zones g c = rw (with_items_is c.args.tally.now.zones c.read_zones.new.out (omega (arith, c.read_zones.ensures.len, c.deref_mut.ensures.len))) (row_zones c.args.page.now c.args.y c.read_zones.new.out c.read_zones.ensures.zones)

pub count_row-requires-clause-marks : goal.count_row-requires-clause-marks
count_row-requires-clause-marks g c = rw (with_items_is c.args.tally.now.marks c.read_marks.new.out (omega (arith, c.read_marks.ensures.len, c.deref_mut-2.ensures.len))) (row_marks c.args.page.now c.args.y c.read_marks.new.out c.read_marks.ensures.marks)

pub count_row-requires-clause-tally : goal.count_row-requires-clause-tally
count_row-requires-clause-tally g c = grind (arith, common_steps)

pub read_marks-requires-clause-fit : goal.read_marks-requires-clause-fit
read_marks-requires-clause-fit g c = grind (arith, common_steps)

pub count_row-requires-clause-planes : goal.count_row-requires-clause-planes
count_row-requires-clause-planes g c = grind (arith, common_steps)

pub returns-clause-tally : goal.returns-clause-tally
returns-clause-tally g c = grind (arith, common_steps)

pub returns-clause-seat : goal.returns-clause-seat
returns-clause-seat g c = grind (arith, common_steps)
