-- enter_row: asks plate c for row y, and notes where it has no ink and which columns the row bares.
use Rattle.std.proofs.lemmas.Grind.{common_steps}
use Rattle.std.proofs.Common.{List, ℕ, slice_index, ap, ◌∙◌, arith}
use Rattle.std.specs.Vec.{with_items}
use Rattle.std.proofs.lemmas.List.{with_items_is}
use Rattle.misregister.proofs.PlateLemmas.{enter_way}
use Rattle.misregister.proofs.plate.enter_row.Goals as goal

pub returns-clause-entered : goal.returns-clause-entered
returns-clause-entered g c = λ older left before way.
    (let workspace = c.args.workspace.now in
    enter_way c.args.sheet.now c.args.radius c.args.c c.args.y left older workspace
    (record { row = with_items workspace.row c.outline_row.new.row; until = with_items workspace.until c.put_near.new.until; shades = with_items workspace.shades c.darken_row.new.shades })
    c.as_slice-row.result.now c.as_mut_slice-3.result.now c.as_mut_slice-2.result.now c.put_near.new.until c.darken_row.new.shades before
    (omega arith) c.as_mut_slice-3.ensures.value c.as_mut_slice-2.ensures.value
    (with_items_is workspace.until c.put_near.new.until (omega arith)) (with_items_is workspace.shades c.darken_row.new.shades (omega arith))
    (λ x l. ap (λ (xs : List ℕ). slice_index xs x) (c.as_slice-row.ensures.value ∙ with_items_is workspace.row c.outline_row.new.row (omega arith)) ∙ c.outline_row.ensures.noted x l)
    c.put_near.ensures c.darken_row.ensures way)

pub darken_row-requires : goal.darken_row-requires
darken_row-requires g c = grind (arith, common_steps)
