-- read_values: unpacks values of a piece.
use Rattle.std.proofs.lemmas.Grind.{common_steps}
use Rattle.std.proofs.Common.{◌≡◌, ℕ, ◌+◌, ap, ◌∙◌, arith}
use Rattle.band_core.specs.Values.{value}
use Rattle.band_claims.proofs.Cutting.{few_values}
use Rattle.band_claims.specs.declared.table_key.TableKey.{TableKey}
use Rattle.band_pieces.proofs.Runs.{values_more}
use Rattle.band_pieces.proofs.reading.read_values.Goals as goal

pub overflow_cast-rest : goal.overflow_cast-rest
overflow_cast-rest g c = omega (arith, c.loop-done-test.true, c.requires.inside, few_values c.args.layout.now c.args.run.piece c.bands-whole.ensures.valid)

pub overflow_add-rest : goal.overflow_add-rest
overflow_add-rest g c = omega (arith, c.loop-done-test.true, c.requires.inside, few_values c.args.layout.now c.args.run.piece c.bands-whole.ensures.valid)

pub read_next-done-requires-clause-layout : goal.read_next-done-requires-clause-layout
read_next-done-requires-clause-layout g c = rw c.loop-done.invariant.seat c.requires.layout

pub read_next-done-requires-clause-fit : goal.read_next-done-requires-clause-fit
read_next-done-requires-clause-fit g c = rw c.loop-done.invariant.seat c.requires.fit

pub read_next-done-requires-clause-known : goal.read_next-done-requires-clause-known
read_next-done-requires-clause-known g c = rw c.loop-done.invariant.seat c.requires.known

pub loop-done-preserved : goal.loop-done-preserved
loop-done-preserved g c =
    let layout = c.args.layout.now in let run = c.args.run in let v = c.loop-done.invariant in let test = c.loop-done-test.true in
    let key : TableKey = g.C.CellSource.table_key c.args.source.now c.args.seat.now in
    record {
      seat = c.read_next-done.ensures.seat ∙ v.seat;
      long = c.read_next-done.ensures.len ∙ v.long;
      within = omega (arith, c.read_next-done.ensures.few, test);
      here = values_more run.place c.loop-done.done c.read_next-done.result (g.V.CellValue.numbers c.loop-done.out) (g.V.CellValue.numbers c.read_next-done.new.out) (λ j. value key.page.value layout run.piece (run.from + j)) c.read_next-done.ensures.kept
          (λ j l. c.read_next-done.ensures.here j l ∙ (λ i. value (g.C.CellSource.table_key c.args.source.now (v.seat i)).page.value layout run.piece (run.from + c.loop-done.done + j)) ∙ ap (λ (z : ℕ). value key.page.value layout run.piece z) (let e : run.from + c.loop-done.done + j ≡ run.from + (c.loop-done.done + j) = omega arith in e)) v.here;
      kept = λ k l. c.read_next-done.ensures.kept k (omega (arith, l)) ∙ v.kept k l;
    }

pub returns-clause-here : goal.returns-clause-here
returns-clause-here g c j l = c.loop-done.invariant.here j (omega (arith, l, c.loop-done-test.false))

pub returns-clause-kept : goal.returns-clause-kept
returns-clause-kept g c = grind (arith, common_steps)
