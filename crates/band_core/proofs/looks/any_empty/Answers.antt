-- any_empty: whether some cell of a piece is empty.
use Rattle.std.proofs.Common.{◌∙◌, arith}
use Rattle.band_core.proofs.LookLemmas.{empty_is, ends_inside, ends_fit}
use Rattle.band_core.proofs.looks.any_empty.Goals as goal

pub overflow_add-word : goal.overflow_add-word
overflow_add-word c = omega (arith, ends_fit c.args.layout.now c.args.piece c.bands-valid.ensures.valid c.requires.piece, c.first_cell-first.ensures.value, c.loop-o-test.true, c.loop-o.invariant.end)

pub bounds-cells-first : goal.bounds-cells-first
bounds-cells-first c = omega (arith, ends_inside c.args.layout.now c.args.piece c.requires.piece, c.first_cell-first.ensures.value, c.loop-o-test.true, c.loop-o.invariant.end, c.requires.cells)

pub returns : goal.returns
returns c = c.loop-o.invariant.any ∙ empty_is c.args.layout.now c.args.cells.now c.args.piece c.loop-o.o (omega (arith, c.loop-o-test.false, c.loop-o.auto.o-end, c.loop-o.invariant.end))
