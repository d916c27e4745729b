-- read_plate_row: the new tints of one plate in row y, where the piece of its band is known.
use Rattle.std.proofs.lemmas.Grind.{common_steps}
use Rattle.std.proofs.Common.{◌≡◌, ℕ, ◌+◌, ◌*◌, ◌/◌, ◌%◌, sym, ap, ◌∙◌, arith}
use Rattle.std.specs.Prelude.{slice_index}
use Rattle.page_model.specs.Bands.{band_of_row, piece_of}
use Rattle.band_core.specs.Values.{value}
use Rattle.band_claims.specs.declared.table_key.TableKey.{TableKey}
use Rattle.band_pieces.proofs.RowPieces.{Row, plate_ends, plate_inside, row_band, row_values_are}
use Rattle.band_pieces.proofs.rows.read_plate_row.Goals as goal

pub piece-number-requires-clause-band : goal.piece-number-requires-clause-band
piece-number-requires-clause-band g c =
    let layout = c.args.layout.now in let key : TableKey = g.C.CellSource.table_key c.args.source.now c.args.seat.now in
    let r : Row key layout 3 c.args.y = record { same = c.requires.layout; fit = c.requires.fit; inside = c.requires.row } in
    rw c.bands-bands.ensures.value (row_band key layout 3 c.args.y r)

pub read_values-requires-clause-piece : goal.read_values-requires-clause-piece
read_values-requires-clause-piece g c = rw (sym c.bands-bands.ensures.value) c.piece-number.ensures.inside

pub read_values-requires-clause-known : goal.read_values-requires-clause-known
read_values-requires-clause-known g c =
    let layout = c.args.layout.now in let y : ℕ = c.args.y in
    let b = c.bands-bands.ensures.value in
    let n : c.piece-number.result ≡ piece_of layout.bands 3 (band_of_row layout.bands y) = c.piece-number.ensures.value ∙ (λ i. piece_of (b i) 3 (y / (b i).height)) in
    rw n c.requires.known

pub read_values-requires-clause-inside : goal.read_values-requires-clause-inside
read_values-requires-clause-inside g c =
    let layout = c.args.layout.now in let y : ℕ = c.args.y in let key : TableKey = g.C.CellSource.table_key c.args.source.now c.args.seat.now in
    let r : Row key layout 3 y = record { same = c.requires.layout; fit = c.requires.fit; inside = c.requires.row } in
    let b = c.bands-bands.ensures.value in
    let n : c.piece-number.result ≡ piece_of layout.bands 3 (band_of_row layout.bands y) = c.piece-number.ensures.value ∙ (λ i. piece_of (b i) 3 (y / (b i).height)) in
    let w = c.row_values-wide.ensures.value in
    let v = c.row_values.ensures.value in
    rw (n, b, w, v, c.requires.out) (plate_ends key layout y c.args.plate r c.requires.plate)

pub returns-clause-here : goal.returns-clause-here
returns-clause-here g c x l =
    let layout = c.args.layout.now in let y : ℕ = c.args.y in let key : TableKey = g.C.CellSource.table_key c.args.source.now c.args.seat.now in
    let r : Row key layout 3 y = record { same = c.requires.layout; fit = c.requires.fit; inside = c.requires.row } in
    let b = c.bands-bands.ensures.value in
    let n : c.piece-number.result ≡ piece_of layout.bands 3 (band_of_row layout.bands y) = c.piece-number.ensures.value ∙ (λ i. piece_of (b i) 3 (y / (b i).height)) in
    let w = c.row_values-wide.ensures.value in
    let v = c.row_values.ensures.value in
    ap (slice_index c.read_values.new.out) (from_none x)
    ∙ (c.read_values.ensures.here x (omega (arith, l, c.requires.out))
    ∙ ((λ i. value key.page.value layout (n i) (y % (b i).height * w i + c.args.plate * v i + x))
    ∙ (ap (value key.page.value layout (piece_of layout.bands 3 (band_of_row layout.bands y))) (plate_place (y % layout.bands.height * (layout.plates * layout.width)) (c.args.plate * layout.width) x)
    ∙ row_values_are key layout 3 y (c.args.plate * layout.width + x) r (plate_inside layout c.args.plate x c.requires.plate l)))) where
      from_none : (x : ℕ) → x ≡ 0 + x
      from_none x = omega arith

      plate_place : (a b x : ℕ) → a + b + x ≡ a + (b + x)
      plate_place a b x = omega arith

pub overflow_mul-run : goal.overflow_mul-run
overflow_mul-run g c = grind (arith, common_steps)

pub read_values-requires-clause-fits : goal.read_values-requires-clause-fits
read_values-requires-clause-fits g c = grind (arith, common_steps)
