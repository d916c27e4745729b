-- fill_marks: the marks of a band, from the zones of its rows and of the row below it.
use Rattle.std.proofs.Common.{rules, ◌≡◌, ℕ, ◌<◌, sym, ap, ◌∙◌, subst, arith}
use Rattle.page_model.specs.declared.bands.Bands.{Bands}
use Rattle.page_model.specs.declared.parts.PageParts.{PageParts}
use Rattle.row_values.specs.declared.rows.Rows.{Rows}
use Rattle.band_core.specs.Places.{per_row}
use Rattle.band_core.specs.Values.{row_value}
use Rattle.row_values.specs.Rows.{HoldsRows}
use Rattle.band_claims.specs.declared.table_key.TableKey.{TableKey}
use Rattle.band_pieces.specs.Spans.{rows_of_piece}
use Rattle.std.proofs.lemmas.Grind.{common_steps}
use Rattle.std.proofs.Common.{refl}
use Rattle.band_core.specs.Layouts.{Layout}
use Rattle.page_model.specs.Bands.{pieces_of}
use Rattle.band_pieces.proofs.Stored.{made_values, marks_to, zones_from}
use Rattle.band_pieces.proofs.Needed.{zones_below}
use Rattle.band_pieces.proofs.fills.fill_marks.Goals as goal

pub read_rows-requires-clause-known : goal.read_rows-requires-clause-known
read_rows-requires-clause-known g c y from below =
    let layout = c.args.task.now.layout.now in let i : ℕ = c.args.task.now.piece in let key : TableKey = g.C.CellSource.table_key c.args.table.now c.args.seat.now in
    let rows : c.rows_of-rows.result ≡ rows_of_piece layout.bands i = c.rows_of-rows.ensures.value ∙ ap (λ (z : Bands). rows_of_piece z i) c.bands.ensures.value in
    let tall = ap (λ (z : Bands). z.rows) c.bands-2.ensures.value in let low = ap (λ (z : Bands). z.height) c.bands.ensures.value in
    let stored = c.rows_below-stored.ensures in let first = ap (λ (z : Rows). z.first) rows in
    c.requires.known _ (zones_below layout.bands c.requires.lies.made.bands i y (omega (arith, below, stored.inside, tall)) c.requires.phase (omega (arith, from, stored.first, first)) (omega (arith, below, stored.first, stored.few, first, c.rows_of-rows.ensures.few, low)))

pub make_marks-requires-clause-zones : goal.make_marks-requires-clause-zones
make_marks-requires-clause-zones g c =
    zones_from c.args.task.now.page.now c.args.task.now.layout.now c.rows_below-stored.result c.read_rows.new.out c.requires.lies.wide (subst (λ (p : PageParts). HoldsRows (per_row c.args.task.now.layout.now 0) (row_value p 0) c.rows_below-stored.result c.read_rows.new.out) (sym c.requires.page) c.read_rows.ensures.rows)

pub put_values-requires-clause-values : goal.put_values-requires-clause-values
put_values-requires-clause-values g c =
    let layout = c.args.task.now.layout.now in let i : ℕ = c.args.task.now.piece in let key : TableKey = g.C.CellSource.table_key c.args.table.now c.args.seat.now in
    let rows : c.rows_of-rows.result ≡ rows_of_piece layout.bands i = c.rows_of-rows.ensures.value ∙ ap (λ (z : Bands). rows_of_piece z i) c.bands.ensures.value in
    rw c.read_rows.ensures.seat (made_values key c.args.task.now.page.now layout i c.rows_of-rows.result c.make_marks.new.out c.requires.layout c.requires.page rows (marks_to c.args.task.now.page.now layout _ c.rows_of-rows.result c.make_marks.new.out c.requires.lies.wide c.requires.phase c.make_marks.ensures.marks))

pub put_values-requires-clause-fit : goal.put_values-requires-clause-fit
put_values-requires-clause-fit g c = rw c.read_rows.ensures.seat c.requires.fit

pub put_values-requires-clause-piece : goal.put_values-requires-clause-piece
put_values-requires-clause-piece g c = let e = c.read_rows.ensures.seat ∙ refl in rw e (subst (λ (z : Layout). c.args.task.now.piece < pieces_of z.bands) c.requires.layout c.requires.piece)

pub put_values-requires-clause-may : goal.put_values-requires-clause-may
put_values-requires-clause-may g c = rw c.read_rows.ensures.seat c.requires.may

pub returns-clause-filled : goal.returns-clause-filled
returns-clause-filled g c = rw (sym c.read_rows.ensures.seat) c.put_values.ensures

pub overflow_mul-zones : goal.overflow_mul-zones
overflow_mul-zones g c = grind (arith, common_steps)

pub slice_bounds-zones-end : goal.slice_bounds-zones-end
slice_bounds-zones-end g c = grind (arith, common_steps)

pub slice_bounds-zones-end-2 : goal.slice_bounds-zones-end-2
slice_bounds-zones-end-2 g c = grind (arith, common_steps)

pub read_rows-requires-clause-out : goal.read_rows-requires-clause-out
read_rows-requires-clause-out g c = grind (arith, common_steps)

pub overflow_mul-marks : goal.overflow_mul-marks
overflow_mul-marks g c = grind (arith, common_steps)

pub slice_bounds-marks-end : goal.slice_bounds-marks-end
slice_bounds-marks-end g c = grind (arith, common_steps)

pub slice_bounds-marks-end-2 : goal.slice_bounds-marks-end-2
slice_bounds-marks-end-2 g c = grind (arith, common_steps)

pub make_marks-requires-clause-out : goal.make_marks-requires-clause-out
make_marks-requires-clause-out g c = grind (arith, common_steps)

pub make_marks-requires-clause-inside : goal.make_marks-requires-clause-inside
make_marks-requires-clause-inside g c = grind (arith, common_steps)

pub make_marks-requires-clause-below : goal.make_marks-requires-clause-below
make_marks-requires-clause-below g c = grind (arith, common_steps)

pub make_marks-requires-clause-stored : goal.make_marks-requires-clause-stored
make_marks-requires-clause-stored g c = grind (arith, common_steps)

pub read_rows-requires-clause-inside : goal.read_rows-requires-clause-inside
read_rows-requires-clause-inside g c = search rules

pub rows_of-rows-requires-clause-piece : goal.rows_of-rows-requires-clause-piece
rows_of-rows-requires-clause-piece g c = grind (arith, common_steps)

pub rows_below-stored-requires-clause-bands : goal.rows_below-stored-requires-clause-bands
rows_below-stored-requires-clause-bands g c = grind (arith, common_steps)

pub rows_below-stored-requires-clause-inside : goal.rows_below-stored-requires-clause-inside
rows_below-stored-requires-clause-inside g c = grind (arith, common_steps)

pub rows_of-rows-requires-clause-bands : goal.rows_of-rows-requires-clause-bands
rows_of-rows-requires-clause-bands g c = grind (arith, common_steps)

pub returns-clause-marks : goal.returns-clause-marks
returns-clause-marks g c = grind (arith, common_steps)

pub returns-clause-zones : goal.returns-clause-zones
returns-clause-zones g c = grind (arith, common_steps)
