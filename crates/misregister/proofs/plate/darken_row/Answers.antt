-- darken_row: no sample of row y is lighter than the plate's row.
use Rattle.std.proofs.Common.{ℕ, min, length, slice_index, refl, ap, ◌∙◌, arith}
use Rattle.misregister.proofs.RowLemmas.{row_next, place_in}
use Rattle.misregister.proofs.plate.darken_row.Goals as goal

pub loop-x-preserved : goal.loop-x-preserved
loop-x-preserved c =
    let columns = length c.args.row.now in
    let x = c.loop-x.x in
    row_next _ c.loop-x.shades _ columns c.args.y _ x c.min.result (omega arith) (place_in columns c.args.y x _ (omega arith) (omega arith)) refl
    (c.min.ensures ∙ ap (λ (v : ℕ). min v (slice_index c.args.row.now x)) (c.loop-x.invariant.later x (omega arith) (omega arith))) c.loop-x.invariant
