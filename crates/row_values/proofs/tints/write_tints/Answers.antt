-- write_tints: writes the new tints of row k of these rows.
use Rattle.std.proofs.Common.{◌∙◌, arith}
use Rattle.std.proofs.lemmas.Grind.{common_steps}
use Rattle.row_values.proofs.RowLemmas.{row_above, row_long, row_part, row_there}
use Rattle.row_values.proofs.tints.write_tints.Goals as goal

pub overflow_mul-start : goal.overflow_mul-start
overflow_mul-start c = grind (arith, common_steps)

pub row_of-row-requires-clause-inside : goal.row_of-row-requires-clause-inside
row_of-row-requires-clause-inside c = grind (arith, common_steps)

pub make_row-requires-clause-zones : goal.make_row-requires-clause-zones
make_row-requires-clause-zones c = grind (arith, common_steps)

pub make_row-requires-clause-codes : goal.make_row-requires-clause-codes
make_row-requires-clause-codes c = grind (arith, common_steps)

pub slice_bounds-make_row-end : goal.slice_bounds-make_row-end
slice_bounds-make_row-end c = grind (arith, common_steps)

pub returns-clause-here : goal.returns-clause-here
returns-clause-here c = λ o l. row_there c.args.rows.count c.args.k _ _ _ o c.args.out.now _ c.requires.row c.requires.out (cc) (c.make_row.ensures.len ∙ row_part c.args.rows.count c.args.k _ _ c.args.out.now c.requires.row c.requires.out (cc)) l ∙ c.make_row.ensures.values o l

pub returns-clause-kept : goal.returns-clause-kept
returns-clause-kept c = λ i l. row_above c.args.rows.count c.args.k _ _ _ i c.args.out.now _ c.requires.row c.requires.out (cc) l

pub returns-clause-len : goal.returns-clause-len
returns-clause-len c = row_long c.args.rows.count c.args.k _ _ c.args.out.now _ c.requires.row c.requires.out (cc) (c.make_row.ensures.len ∙ row_part c.args.rows.count c.args.k _ _ c.args.out.now c.requires.row c.requires.out (cc))

pub offset_bounds-out-start : goal.offset_bounds-out-start
offset_bounds-out-start c = grind (arith, common_steps)

pub row_of_bytes-here-requires-clause-inside : goal.row_of_bytes-here-requires-clause-inside
row_of_bytes-here-requires-clause-inside c = grind (arith, common_steps)

pub overflow_add-start : goal.overflow_add-start
overflow_add-start c = grind (arith, common_steps)

pub make_row-requires-clause-out : goal.make_row-requires-clause-out
make_row-requires-clause-out c = grind (arith, common_steps)
