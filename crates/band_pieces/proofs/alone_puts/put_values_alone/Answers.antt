-- put_values_alone: packs the values of a piece into its cells.
use Rattle.std.proofs.lemmas.Grind.{common_steps}
use Rattle.std.proofs.Common.{◌+◌, ◌<◌, sym, ap, ◌∙◌, subst, arith}
use Rattle.page_model.specs.Bands.{pieces_of}
use Rattle.band_core.specs.Layouts.{Layout}
use Rattle.band_core.specs.Places.{cell_total, first_cell_of}
use Rattle.band_claims.specs.declared.table_key.TableKey.{TableKey}
use Rattle.band_claims.specs.TableKeys.{cell}
use Rattle.band_claims.specs.Filled.{AreValues}
use Rattle.band_pieces.proofs.Cells.{has_at}
use Rattle.band_pieces.proofs.Filling.{filled_all, filled_more, filled_none}
use Rattle.band_pieces.proofs.alone_puts.put_values_alone.Goals as goal

pub loop-o-init : goal.loop-o-init
loop-o-init g c = filled_none c.args.closed.now c.args.piece

pub word_of_values-word-requires-clause-piece : goal.word_of_values-word-requires-clause-piece
word_of_values-word-requires-clause-piece g c = subst (λ (z : TableKey). c.args.piece < pieces_of z.layout.bands) (sym (c.table_key.ensures.same ∙ c.loop-o.invariant.table_key)) c.requires.piece

pub word_of_values-word-requires-clause-cell : goal.word_of_values-word-requires-clause-cell
word_of_values-word-requires-clause-cell g c =
    let key = c.args.closed.now.table_key in let same = c.loop-o.invariant.table_key in
    let here : c.loop-o.o < cell_total key.layout c.args.piece = omega (arith, c.loop-o-test.true, c.cell_count-o-end.ensures.value ∙ ap (λ (z : Layout). cell_total z c.args.piece) c.layout.ensures.same) in
    subst (λ (z : TableKey). c.loop-o.o < cell_total z.layout c.args.piece) (sym (c.table_key.ensures.same ∙ same)) here

pub word_of_values-word-requires-clause-values : goal.word_of_values-word-requires-clause-values
word_of_values-word-requires-clause-values g c = subst (λ (z : TableKey). AreValues z c.args.piece (g.V.CellValue.numbers c.args.values.now)) (sym (c.table_key.ensures.same ∙ c.loop-o.invariant.table_key)) c.requires.values

pub put_word-requires-clause-piece : goal.put_word-requires-clause-piece
put_word-requires-clause-piece g c = subst (λ (z : TableKey). c.args.piece < pieces_of z.layout.bands) (sym c.loop-o.invariant.table_key) c.requires.piece

pub put_word-requires-clause-cell : goal.put_word-requires-clause-cell
put_word-requires-clause-cell g c =
    let key = c.args.closed.now.table_key in let same = c.loop-o.invariant.table_key in
    let here : c.loop-o.o < cell_total key.layout c.args.piece = omega (arith, c.loop-o-test.true, c.cell_count-o-end.ensures.value ∙ ap (λ (z : Layout). cell_total z c.args.piece) c.layout.ensures.same) in
    subst (λ (z : TableKey). c.loop-o.o < cell_total z.layout c.args.piece) (sym same) here

pub put_word-requires-clause-word : goal.put_word-requires-clause-word
put_word-requires-clause-word g c = let e = c.table_key.ensures.same in c.word_of_values-word.ensures ∙ (λ i. cell (e i) (first_cell_of (e i).layout c.args.piece + c.loop-o.o))

pub loop-o-preserved : goal.loop-o-preserved
loop-o-preserved g c =
    let key = c.args.closed.now.table_key in let same = c.loop-o.invariant.table_key in
    let here : c.loop-o.o < cell_total key.layout c.args.piece = omega (arith, c.loop-o-test.true, c.cell_count-o-end.ensures.value ∙ ap (λ (z : Layout). cell_total z c.args.piece) c.layout.ensures.same) in
    filled_more c.args.closed.now c.loop-o.closed c.put_word.new.closed c.args.piece c.loop-o.o c.layout.ensures.fits
    (c.table_key-whole.ensures.wide) (has_at key c.args.piece c.loop-o.o c.requires.piece here) c.loop-o.invariant c.put_word.ensures

pub returns : goal.returns
returns g c =
    let count = c.cell_count-o-end.ensures.value ∙ ap (λ (z : Layout). cell_total z c.args.piece) c.layout.ensures.same in
    filled_all c.args.closed.now c.loop-o.closed c.args.piece c.loop-o.o c.layout.ensures.fits c.requires.piece (omega (arith, count, c.loop-o-test.false)) c.loop-o.invariant

pub word_of_values-word-requires-clause-fit : goal.word_of_values-word-requires-clause-fit
word_of_values-word-requires-clause-fit g c = grind (arith, common_steps)
