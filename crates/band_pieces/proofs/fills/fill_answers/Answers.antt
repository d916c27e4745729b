-- fill_answers: the column answers of a band, from the marks of its rows and of those that the
-- reach touches.
use Rattle.std.proofs.Common.{rules, ◌≡◌, ℕ, ◌+◌, ◌<◌, ◌≤◌, sym, ap, ◌∙◌, subst, arith}
use Rattle.page_model.specs.declared.bands.Bands.{Bands}
use Rattle.page_model.specs.declared.parts.PageParts.{PageParts}
use Rattle.row_values.specs.declared.rows.Rows.{Rows}
use Rattle.band_core.specs.Places.{per_row}
use Rattle.band_core.specs.Values.{row_value}
use Rattle.row_values.specs.Rows.{HoldsRows}
use Rattle.band_claims.specs.declared.table_key.TableKey.{TableKey}
use Rattle.band_pieces.specs.Spans.{rows_of_piece}
use Rattle.std.proofs.lemmas.Grind.{common_steps}
use Rattle.std.proofs.Common.{refl}
use Rattle.band_core.specs.Layouts.{Layout}
use Rattle.page_model.specs.Bands.{pieces_of}
use Rattle.page_model.specs.Columns.{halo}
use Rattle.band_pieces.proofs.Stored.{answers_to, made_values, marks_from}
use Rattle.band_pieces.proofs.Needed.{marks_near}
use Rattle.band_pieces.proofs.fills.fill_answers.Goals as goal

pub read_rows-requires-clause-known : goal.read_rows-requires-clause-known
read_rows-requires-clause-known g c y from below =
    let layout = c.args.task.now.layout.now in let i : ℕ = c.args.task.now.piece in let key : TableKey = g.C.CellSource.table_key c.args.table.now c.args.seat.now in
    let rows : c.rows_of-rows.result ≡ rows_of_piece layout.bands i = c.rows_of-rows.ensures.value ∙ ap (λ (z : Bands). rows_of_piece z i) c.bands.ensures.value in
    let tall = ap (λ (z : Bands). z.rows) c.bands-2.ensures.value in let low = ap (λ (z : Bands). z.height) c.bands.ensures.value in
    let reach = ap (λ (z : Bands). halo z.reach2) c.bands-2.ensures.value in
    let stored = c.rows_near-stored.ensures in let first = ap (λ (z : Rows). z.first) rows in
    c.requires.known _ (marks_near layout.bands c.requires.lies.made.bands i y (omega (arith, below, stored.inside, tall)) c.requires.phase (omega (arith, from, stored.near_above, first, reach)) (omega (arith, below, stored.near_under, first, c.rows_of-rows.ensures.few, low, reach)))

pub make_answers-requires-clause-marks : goal.make_answers-requires-clause-marks
make_answers-requires-clause-marks g c =
    marks_from c.args.task.now.page.now c.args.task.now.layout.now c.rows_near-stored.result c.read_rows.new.out c.requires.lies.wide (subst (λ (p : PageParts). HoldsRows (per_row c.args.task.now.layout.now 1) (row_value p 1) c.rows_near-stored.result c.read_rows.new.out) (sym c.requires.page) c.read_rows.ensures.rows)

pub make_answers-requires-clause-far_above : goal.make_answers-requires-clause-far_above
make_answers-requires-clause-far_above g c row l =
    let reach = sym c.requires.lies.reach ∙ sym (ap (λ (z : Bands). z.reach2) c.bands-2.ensures.value) in
    c.rows_near-stored.ensures.far_above row (subst (λ (z : ℕ). c.rows_of-rows.result.first ≤ row + halo z) reach l)

pub make_answers-requires-clause-far_under : goal.make_answers-requires-clause-far_under
make_answers-requires-clause-far_under g c row inside l =
    let reach = sym c.requires.lies.reach ∙ sym (ap (λ (z : Bands). z.reach2) c.bands-2.ensures.value) in
    let tall = sym c.requires.lies.tall ∙ sym (ap (λ (z : Bands). z.rows) c.bands-2.ensures.value) in
    c.rows_near-stored.ensures.far_under row (omega (arith, inside, tall)) (subst (λ (z : ℕ). row < c.rows_of-rows.result.first + c.rows_of-rows.result.count + halo z) reach l)

pub put_values-requires-clause-values : goal.put_values-requires-clause-values
put_values-requires-clause-values g c =
    let layout = c.args.task.now.layout.now in let i : ℕ = c.args.task.now.piece in let key : TableKey = g.C.CellSource.table_key c.args.table.now c.args.seat.now in
    let rows : c.rows_of-rows.result ≡ rows_of_piece layout.bands i = c.rows_of-rows.ensures.value ∙ ap (λ (z : Bands). rows_of_piece z i) c.bands.ensures.value in
    rw c.read_rows.ensures.seat (made_values key c.args.task.now.page.now layout i c.rows_of-rows.result c.make_answers.new.out c.requires.layout c.requires.page rows (answers_to c.args.task.now.page.now layout _ c.rows_of-rows.result c.make_answers.new.out c.requires.lies.wide c.requires.phase c.make_answers.ensures.answers))

pub put_values-requires-clause-fit : goal.put_values-requires-clause-fit
put_values-requires-clause-fit g c = rw c.read_rows.ensures.seat c.requires.fit

pub put_values-requires-clause-piece : goal.put_values-requires-clause-piece
put_values-requires-clause-piece g c = let e = c.read_rows.ensures.seat ∙ refl in rw e (subst (λ (z : Layout). c.args.task.now.piece < pieces_of z.bands) c.requires.layout c.requires.piece)

pub put_values-requires-clause-may : goal.put_values-requires-clause-may
put_values-requires-clause-may g c = rw c.read_rows.ensures.seat c.requires.may

pub returns-clause-filled : goal.returns-clause-filled
returns-clause-filled g c = rw (sym c.read_rows.ensures.seat) c.put_values.ensures

pub overflow_mul-marks : goal.overflow_mul-marks
overflow_mul-marks g c = grind (arith, common_steps)

pub slice_bounds-marks-end : goal.slice_bounds-marks-end
slice_bounds-marks-end g c = grind (arith, common_steps)

pub slice_bounds-marks-end-2 : goal.slice_bounds-marks-end-2
slice_bounds-marks-end-2 g c = grind (arith, common_steps)

pub read_rows-requires-clause-out : goal.read_rows-requires-clause-out
read_rows-requires-clause-out g c = grind (arith, common_steps)

pub overflow_mul-answers : goal.overflow_mul-answers
overflow_mul-answers g c = grind (arith, common_steps)

pub slice_bounds-answers-end : goal.slice_bounds-answers-end
slice_bounds-answers-end g c = grind (arith, common_steps)

pub slice_bounds-answers-end-2 : goal.slice_bounds-answers-end-2
slice_bounds-answers-end-2 g c = grind (arith, common_steps)

pub make_answers-requires-clause-out : goal.make_answers-requires-clause-out
make_answers-requires-clause-out g c = grind (arith, common_steps)

pub make_answers-requires-clause-inside : goal.make_answers-requires-clause-inside
make_answers-requires-clause-inside g c = grind (arith, common_steps)

pub make_answers-requires-clause-stored : goal.make_answers-requires-clause-stored
make_answers-requires-clause-stored g c = grind (arith, common_steps)

pub read_rows-requires-clause-inside : goal.read_rows-requires-clause-inside
read_rows-requires-clause-inside g c = search rules

pub returns-clause-marks : goal.returns-clause-marks
returns-clause-marks g c = grind (arith, common_steps)

pub returns-clause-answers : goal.returns-clause-answers
returns-clause-answers g c = grind (arith, common_steps)

pub rows_of-rows-requires-clause-piece : goal.rows_of-rows-requires-clause-piece
rows_of-rows-requires-clause-piece g c = grind (arith, common_steps)

pub rows_near-stored-requires-clause-inside : goal.rows_near-stored-requires-clause-inside
rows_near-stored-requires-clause-inside g c = grind (arith, common_steps)

pub rows_of-rows-requires-clause-bands : goal.rows_of-rows-requires-clause-bands
rows_of-rows-requires-clause-bands g c = grind (arith, common_steps)

pub rows_near-stored-requires-clause-bands : goal.rows_near-stored-requires-clause-bands
rows_near-stored-requires-clause-bands g c = grind (arith, common_steps)
