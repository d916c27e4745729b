-- fill_colours: one more row is put into the list.
use Rattle.std.proofs.Common.{◌∙◌}
use Rattle.keepaway.proofs.RowLemmas.{rows_next}
use Rattle.underprint.specs.Lists.{colour_level}
use Rattle.underprint.proofs.cover.fill_colours.Goals as goal

pub loop-y-preserved : goal.loop-y-preserved
loop-y-preserved c = record {
  rows = rows_next c.args.page.now (colour_level c.args.page.now c.args.whites.now) c.loop-y.y c.loop-y.levels c.put_row.new.list c.write_colours.new.levels c.loop-y.invariant.rows c.write_colours.ensures.row c.put_row.ensures.there c.put_row.ensures.above c.put_row.ensures.long;
  sums = c.write_colours.ensures.sums ∙ c.loop-y.invariant.sums;
}
