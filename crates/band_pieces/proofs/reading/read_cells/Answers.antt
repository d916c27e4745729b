-- read_cells: unpacks all values of whole cells.
use Rattle.std.proofs.lemmas.Grind.{common_steps}
use Rattle.std.proofs.Common.{◌≡◌, ℕ, ◌+◌, ◌*◌, ◌≤◌, sym, ap, ◌∙◌, subst, arith}
use Rattle.band_core.specs.Values.{value}
use Rattle.band_claims.specs.declared.table_key.TableKey.{TableKey}
use Rattle.page_model.specs.Bands.{phase_of}
use Rattle.band_core.specs.Layouts.{IsLayout, Layout}
use Rattle.band_core.specs.Places.{lanes_of, value_total}
use Rattle.band_claims.proofs.Cutting.{few_values}
use Rattle.band_pieces.proofs.Runs.{cells_few, next_cell, values_more}
use Rattle.band_pieces.proofs.reading.read_cells.Goals as goal

place_of : (cell o n m j : ℕ) → n ≡ m → (cell + o) * m + 0 + j ≡ cell * n + (o * n + j)
place_of cell o n m j same = rw same (let e : (cell + o) * m ≡ cell * m + o * m = grind arith in omega (arith, e))

pub overflow_add-part : goal.overflow_add-part
overflow_add-part g c =
    let cells = c.args.cells in let layout = c.args.layout.now in let made = subst (λ (z : Layout). IsLayout z) (sym c.requires.layout) c.requires.fit.made in
    omega (arith, cells_few cells.cell cells.count g.row.LANES (value_total layout cells.piece) c.requires.some c.requires.inside (few_values layout cells.piece made), c.loop-o-test.true)

pub read_part-requires-clause-layout : goal.read_part-requires-clause-layout
read_part-requires-clause-layout g c = rw c.loop-o.invariant.seat c.requires.layout

pub read_part-requires-clause-fit : goal.read_part-requires-clause-fit
read_part-requires-clause-fit g c = rw c.loop-o.invariant.seat c.requires.fit

pub read_part-requires-clause-known : goal.read_part-requires-clause-known
read_part-requires-clause-known g c = rw c.loop-o.invariant.seat c.requires.known

pub read_part-requires-clause-few : goal.read_part-requires-clause-few
read_part-requires-clause-few g c = omega (arith, c.requires.lanes)

pub read_part-requires-clause-inside : goal.read_part-requires-clause-inside
read_part-requires-clause-inside g c =
    let cells = c.args.cells in let n : ℕ = g.row.LANES in
    let t = next_cell (cells.cell + c.loop-o.o) (cells.cell + cells.count) n (omega (arith, c.loop-o-test.true)) in
    subst (λ (z : ℕ). (cells.cell + c.loop-o.o) * z + 0 + n ≤ value_total c.args.layout.now cells.piece) c.requires.lanes (omega (arith, t, c.requires.inside))

pub read_part-requires-clause-out : goal.read_part-requires-clause-out
read_part-requires-clause-out g c =
    omega (arith, next_cell c.loop-o.o c.args.cells.count g.row.LANES (omega (arith, c.loop-o-test.true)), c.requires.out, c.loop-o.invariant.long)

pub loop-o-preserved : goal.loop-o-preserved
loop-o-preserved g c =
    let layout = c.args.layout.now in let cells = c.args.cells in let v = c.loop-o.invariant in let n : ℕ = g.row.LANES in let o : ℕ = c.loop-o.o in
    let key : TableKey = g.C.CellSource.table_key c.args.source.now c.args.seat.now in let m : ℕ = lanes_of (phase_of layout.bands cells.piece) in
    let next : (o + 1) * n ≡ o * n + n = grind arith in
    let more = values_more cells.place (o * n) n (g.V.CellValue.numbers c.loop-o.out) (g.V.CellValue.numbers c.read_part.new.out) (λ j. value key.page.value layout cells.piece (cells.cell * n + j)) c.read_part.ensures.kept
    (λ j l. c.read_part.ensures.here j l ∙ (λ i. value (g.C.CellSource.table_key c.args.source.now (v.seat i)).page.value layout cells.piece ((cells.cell + o) * m + 0 + j)) ∙ ap (λ (z : ℕ). value key.page.value layout cells.piece z) (place_of cells.cell o n m j c.requires.lanes)) v.here in
    record {
      seat = c.read_part.ensures.seat ∙ v.seat;
      long = c.read_part.ensures.len ∙ v.long;
      here = λ j l. more j (omega (arith, l, next));
      kept = λ k l. c.read_part.ensures.kept k (omega (arith, l)) ∙ v.kept k l;
    }

pub returns-clause-here : goal.returns-clause-here
returns-clause-here g c = grind (arith, common_steps)

pub overflow_add-part-in-loop-o : goal.overflow_add-part-in-loop-o
overflow_add-part-in-loop-o g c = grind (arith, common_steps)

pub returns-clause-kept : goal.returns-clause-kept
returns-clause-kept g c = grind (arith, common_steps)

pub overflow_mul-part : goal.overflow_mul-part
overflow_mul-part g c = grind (arith, common_steps)

pub loop-o-init : goal.loop-o-init
loop-o-init g c = grind (arith, common_steps)
