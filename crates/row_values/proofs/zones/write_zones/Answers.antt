-- write_zones: writes the zones of row k of these rows.
use Rattle.std.proofs.Common.{◌∙◌, arith, sym}
use Rattle.std.proofs.lemmas.Grind.{common_steps}
use Rattle.row_values.proofs.RowLemmas.{row_above, row_long, row_there}
use Rattle.row_values.proofs.zones.write_zones.Goals as goal

pub overflow_mul-start : goal.overflow_mul-start
overflow_mul-start c = grind (arith, common_steps)

pub slice_bounds-row-end : goal.slice_bounds-row-end
slice_bounds-row-end c = grind (arith, common_steps)

pub returns-clause-here : goal.returns-clause-here
returns-clause-here c = λ o l. row_there c.args.rows.count c.args.k _ _ _ o c.args.out.now _ c.requires.row c.requires.out c.width-width.ensures.value (c.zone_row_near.ensures.zones.wide ∙ sym c.width-width.ensures.value) l ∙ c.zone_row_near.ensures.zones.each o l

pub returns-clause-kept : goal.returns-clause-kept
returns-clause-kept c = λ i l. row_above c.args.rows.count c.args.k _ _ _ i c.args.out.now _ c.requires.row c.requires.out c.width-width.ensures.value l

pub returns-clause-len : goal.returns-clause-len
returns-clause-len c = row_long c.args.rows.count c.args.k _ _ c.args.out.now _ c.requires.row c.requires.out c.width-width.ensures.value (c.zone_row_near.ensures.zones.wide ∙ sym c.width-width.ensures.value)
