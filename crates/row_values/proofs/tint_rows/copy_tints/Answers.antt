-- copy_tints: copies the tints of one plate in a row.
use Rattle.std.proofs.Common.{◌∙◌, ap, arith, List, ℕ, slice_index}
use Rattle.std.proofs.lemmas.Grind.{common_steps}
use Rattle.page_model.specs.Page.{plates}
use Rattle.row_values.proofs.RowLemmas.{row_above, row_long, row_part, row_there}
use Rattle.row_values.proofs.tint_rows.copy_tints.Goals as goal

pub overflow_mul-start : goal.overflow_mul-start
overflow_mul-start c = grind (arith, common_steps)

pub slice_bounds-copy_from_slice-end : goal.slice_bounds-copy_from_slice-end
slice_bounds-copy_from_slice-end c = grind (arith, common_steps)

pub returns-clause-here : goal.returns-clause-here
returns-clause-here c = λ o l. row_there (plates c.args.page.now) c.args.c _ _ _ o c.args.out.now _ c.requires.plate c.requires.out c.width-width.ensures.value (c.copy_from_slice.ensures.len ∙ row_part (plates c.args.page.now) c.args.c _ _ c.args.out.now c.requires.plate c.requires.out c.width-width.ensures.value) l ∙ ap (λ (ts : List ℕ). slice_index ts o) c.copy_from_slice.ensures.after ∙ c.tints_of_row-tints.ensures.each o l

pub returns-clause-kept : goal.returns-clause-kept
returns-clause-kept c = λ i l. row_above (plates c.args.page.now) c.args.c _ _ _ i c.args.out.now _ c.requires.plate c.requires.out c.width-width.ensures.value l

pub returns-clause-len : goal.returns-clause-len
returns-clause-len c = row_long (plates c.args.page.now) c.args.c _ _ c.args.out.now _ c.requires.plate c.requires.out c.width-width.ensures.value (c.copy_from_slice.ensures.len ∙ row_part (plates c.args.page.now) c.args.c _ _ c.args.out.now c.requires.plate c.requires.out c.width-width.ensures.value)
