-- write_marks: writes the marks of row k of these rows.
use Rattle.std.proofs.Common.{◌∙◌, arith}
use Rattle.std.proofs.lemmas.Grind.{common_steps}
use Rattle.row_values.proofs.RowLemmas.{row_above, row_long, row_part, row_there}
use Rattle.row_values.proofs.marks.write_marks.Goals as goal

pub overflow_mul-start : goal.overflow_mul-start
overflow_mul-start c = grind (arith, common_steps)

pub slice_bounds-edge_row-end : goal.slice_bounds-edge_row-end
slice_bounds-edge_row-end c = grind (arith, common_steps)

pub returns-clause-here : goal.returns-clause-here
returns-clause-here c = λ o l. row_there c.args.rows.count c.args.k _ _ _ o c.args.out.now _ c.requires.row c.requires.out c.width-width.ensures.value (c.edge_row.ensures.long ∙ row_part c.args.rows.count c.args.k _ _ c.args.out.now c.requires.row c.requires.out c.width-width.ensures.value) l ∙ c.edge_row.ensures.marks o l

pub returns-clause-kept : goal.returns-clause-kept
returns-clause-kept c = λ i l. row_above c.args.rows.count c.args.k _ _ _ i c.args.out.now _ c.requires.row c.requires.out c.width-width.ensures.value l

pub returns-clause-len : goal.returns-clause-len
returns-clause-len c = row_long c.args.rows.count c.args.k _ _ c.args.out.now _ c.requires.row c.requires.out c.width-width.ensures.value (c.edge_row.ensures.long ∙ row_part c.args.rows.count c.args.k _ _ c.args.out.now c.requires.row c.requires.out c.width-width.ensures.value)
