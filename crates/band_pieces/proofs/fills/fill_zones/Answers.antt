-- fill_zones: the zones of a band, from the page alone.
use Rattle.std.proofs.Common.{◌≡◌, ℕ, ap, ◌∙◌, arith}
use Rattle.std.proofs.lemmas.Grind.{common_steps}
use Rattle.page_model.specs.declared.bands.Bands.{Bands}
use Rattle.band_claims.specs.declared.table_key.TableKey.{TableKey}
use Rattle.band_pieces.specs.Spans.{rows_of_piece}
use Rattle.band_pieces.proofs.Stored.{made_values, zones_to}
use Rattle.band_pieces.proofs.fills.fill_zones.Goals as goal

pub put_values-requires-clause-values : goal.put_values-requires-clause-values
put_values-requires-clause-values g c =
    let layout = c.args.task.now.layout.now in let i : ℕ = c.args.task.now.piece in let key : TableKey = g.C.CellSource.table_key c.args.table.now c.args.seat.now in
    let rows : c.rows_of-rows.result ≡ rows_of_piece layout.bands i = c.rows_of-rows.ensures.value ∙ ap (λ (z : Bands). rows_of_piece z i) c.bands.ensures.value in
    made_values key c.args.task.now.page.now layout i c.rows_of-rows.result c.make_zones.new.out c.requires.layout c.requires.page rows (zones_to c.args.task.now.page.now layout _ c.rows_of-rows.result c.make_zones.new.out c.requires.lies.wide c.requires.phase c.make_zones.ensures.zones)

pub overflow_mul-count : goal.overflow_mul-count
overflow_mul-count g c = grind (arith, common_steps)

pub slice_bounds-zones-end : goal.slice_bounds-zones-end
slice_bounds-zones-end g c = grind (arith, common_steps)

pub slice_bounds-zones-end-2 : goal.slice_bounds-zones-end-2
slice_bounds-zones-end-2 g c = grind (arith, common_steps)

pub make_zones-requires-clause-out : goal.make_zones-requires-clause-out
make_zones-requires-clause-out g c = grind (arith, common_steps)

pub rows_of-rows-requires-clause-piece : goal.rows_of-rows-requires-clause-piece
rows_of-rows-requires-clause-piece g c = grind (arith, common_steps)

pub make_zones-requires-clause-inside : goal.make_zones-requires-clause-inside
make_zones-requires-clause-inside g c = grind (arith, common_steps)

pub put_values-requires-clause-piece : goal.put_values-requires-clause-piece
put_values-requires-clause-piece g c = grind (arith, common_steps)

pub rows_of-rows-requires-clause-bands : goal.rows_of-rows-requires-clause-bands
rows_of-rows-requires-clause-bands g c = grind (arith, common_steps)
