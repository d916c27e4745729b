-- any_takes: whether a cell is one of a claimed piece.
use Rattle.std.proofs.Common.{◌<◌, ◌∙◌, arith}
use Rattle.band_core.specs.Places.{piece_count}
use Rattle.band_core.proofs.LookLemmas.{hand_is, ends_fit}
use Rattle.band_core.proofs.looks.any_takes.Goals as goal

pub overflow_add-takes : goal.overflow_add-takes
overflow_add-takes c =
    let inside : c.loop-i.i < piece_count c.args.layout.now = omega (arith, c.loop-i-test.true, c.loop-i.invariant.end) in
    omega (arith, ends_fit c.args.layout.now c.loop-i.i c.bands-bands.ensures.valid inside, c.first_cell-first.ensures.value, c.cell_count-count.ensures.value)

pub returns : goal.returns
returns c = c.loop-i.invariant.any ∙ hand_is c.args.layout.now c.args.states.now c.args.cell c.loop-i.i (omega (arith, c.loop-i-test.false, c.loop-i.auto.i-end, c.loop-i.invariant.end))
