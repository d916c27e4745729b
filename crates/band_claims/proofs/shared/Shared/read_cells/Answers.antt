-- Shared::read_cells: the words of cells, from number `first` on, of pieces that the pass saw done
-- or published.
use Rattle.std.proofs.lemmas.Grind.{common_steps}
use Rattle.std.proofs.Common.{ap, arith, ◌+◌}
use Rattle.band_claims.specs.TableKeys.{shape_of}
use Rattle.band_core.specs.TableShapes.{Has}
use Rattle.band_claims.proofs.Steps.{small_word}
use Rattle.band_claims.proofs.shared.Shared.read_cells.Goals as goal

pub read_cell-requires-clause-known : goal.read_cell-requires-clause-known
read_cell-requires-clause-known c = rw c.loop-o.invariant.pass (c.requires.known c.loop-o.o (omega (arith, c.loop-o-test.true)))

pub overflow_cast-o : goal.overflow_cast-o
overflow_cast-o c =
    let key = c.self.inside.table.shared.key in
    let h = c.requires.known c.loop-o.o (omega (arith, c.loop-o-test.true)) in
    let here : Has (shape_of key) h.0 (c.args.first + c.loop-o.o) = rw (ap (λ z. z.table_key) c.self.view_is) h.1 in
    omega (arith, (small_word key c.self.invariant.fit h.0 _ here).1)

pub overflow_add-first : goal.overflow_add-first
overflow_add-first c =
    let key = c.self.inside.table.shared.key in
    let h = c.requires.known c.loop-o.o (omega (arith, c.loop-o-test.true)) in
    let here : Has (shape_of key) h.0 (c.args.first + c.loop-o.o) = rw (ap (λ z. z.table_key) c.self.view_is) h.1 in
    omega (arith, (small_word key c.self.invariant.fit h.0 _ here).1)

pub loop-o-preserved : goal.loop-o-preserved
loop-o-preserved c = grind (arith, common_steps)
