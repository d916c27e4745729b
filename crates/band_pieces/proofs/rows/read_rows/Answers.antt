-- read_rows: the values of a phase of these rows, row by row, where the pieces of their bands are
-- known.
use Rattle.std.proofs.lemmas.Grind.{common_steps}
use Rattle.std.proofs.Common.{ℕ, ◌+◌, ◌∙◌, arith}
use Rattle.band_core.specs.Places.{per_row}
use Rattle.band_core.specs.Values.{row_value}
use Rattle.row_values.proofs.RowLemmas.{rows_more}
use Rattle.band_pieces.proofs.rows.read_rows.Goals as goal

pub read_row-requires-clause-layout : goal.read_row-requires-clause-layout
read_row-requires-clause-layout g c = rw c.loop-k.invariant.seat c.requires.layout

pub read_row-requires-clause-fit : goal.read_row-requires-clause-fit
read_row-requires-clause-fit g c = rw c.loop-k.invariant.seat c.requires.fit

pub read_row-requires-clause-known : goal.read_row-requires-clause-known
read_row-requires-clause-known g c = rw c.loop-k.invariant.seat (c.requires.known (c.args.rows.first + c.loop-k.k) (omega arith) (omega (arith, c.loop-k-test.true, c.loop-k.invariant.end)))

pub loop-k-preserved : goal.loop-k-preserved
loop-k-preserved g c =
    let v = c.loop-k.invariant in let s = v.seat in record {
      end = v.end;
      seat = c.read_row.ensures.seat ∙ s;
      long = c.read_row.ensures.len ∙ v.long;
      done = rows_more (per_row c.args.layout.now c.args.phase) c.loop-k.k (λ (j : ℕ). row_value (g.C.CellSource.table_key c.args.source.now c.args.seat.now).page.value c.args.phase (c.args.rows.first + j)) (g.V.CellValue.numbers c.loop-k.out) (g.V.CellValue.numbers c.read_row.new.out) c.read_row.ensures.kept
          (λ o l. c.read_row.ensures.here o l ∙ (λ i. row_value (g.C.CellSource.table_key c.args.source.now (s i)).page.value c.args.phase (c.args.rows.first + c.loop-k.k) o)) v.done;
    }

pub returns-clause-rows : goal.returns-clause-rows
returns-clause-rows g c = grind (arith, common_steps)
