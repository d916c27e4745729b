-- read_row: the values of a phase of row k of these rows.
use Rattle.std.proofs.Common.{◌≡◌, ℕ, ◌+◌, ◌*◌, ◌/◌, ◌%◌, ◌≤◌, sym, ap, ◌∙◌, subst, arith}
use Rattle.std.proofs.lemmas.Grind.{common_steps}
use Rattle.std.specs.Prelude.{slice_index}
use Rattle.page_model.specs.Bands.{band_of_row, phase_of, piece_of}
use Rattle.page_model.proofs.BandLemmas.{phase_of_piece}
use Rattle.band_core.specs.Places.{bits_of}
use Rattle.band_core.specs.Values.{value}
use Rattle.band_claims.specs.declared.table_key.TableKey.{TableKey}
use Rattle.band_pieces.proofs.RowPieces.{Row, row_band, row_ends, row_values_are, some_per_row}
use Rattle.band_pieces.proofs.rows.read_row.Goals as goal

pub piece-number-requires-clause-band : goal.piece-number-requires-clause-band
piece-number-requires-clause-band g c =
    let layout = c.args.layout.now in let y : ℕ = c.args.rows.first + c.args.k in let key : TableKey = g.C.CellSource.table_key c.args.source.now c.args.seat.now in
    let r : Row key layout c.args.phase y = record { same = c.requires.layout; fit = c.requires.fit; inside = omega (arith, c.requires.row, c.requires.inside) } in
    rw c.bands-bands.ensures.value (row_band key layout c.args.phase y r)

pub read_values-requires-clause-piece : goal.read_values-requires-clause-piece
read_values-requires-clause-piece g c = rw (sym c.bands-bands.ensures.value) c.piece-number.ensures.inside

pub read_values-requires-clause-fits : goal.read_values-requires-clause-fits
read_values-requires-clause-fits g c =
    let layout = c.args.layout.now in let phase : ℕ = c.args.phase in let y : ℕ = c.args.rows.first + c.args.k in let key : TableKey = g.C.CellSource.table_key c.args.source.now c.args.seat.now in
    let r : Row key layout phase y = record { same = c.requires.layout; fit = c.requires.fit; inside = omega (arith, c.requires.row, c.requires.inside) } in
    let b = c.bands-bands.ensures.value in
    let n : c.piece-number.result ≡ piece_of layout.bands phase (band_of_row layout.bands y) = c.piece-number.ensures.value ∙ (λ i. piece_of (b i) phase (y / (b i).height)) in
    let p : phase_of layout.bands c.piece-number.result ≡ phase = ap (phase_of layout.bands) n ∙ phase_of_piece layout.bands phase (band_of_row layout.bands y) (row_band key layout phase y r) in
    subst (λ (q : ℕ). bits_of q ≤ g.V.CellValue.width) (sym p) c.requires.fits

pub read_values-requires-clause-known : goal.read_values-requires-clause-known
read_values-requires-clause-known g c =
    let layout = c.args.layout.now in let phase : ℕ = c.args.phase in let y : ℕ = c.args.rows.first + c.args.k in let key : TableKey = g.C.CellSource.table_key c.args.source.now c.args.seat.now in
    let r : Row key layout phase y = record { same = c.requires.layout; fit = c.requires.fit; inside = omega (arith, c.requires.row, c.requires.inside) } in
    let b = c.bands-bands.ensures.value in
    let n : c.piece-number.result ≡ piece_of layout.bands phase (band_of_row layout.bands y) = c.piece-number.ensures.value ∙ (λ i. piece_of (b i) phase (y / (b i).height)) in
    let w = c.row_values-wide.ensures.value in
    rw n c.requires.known

pub read_values-requires-clause-inside : goal.read_values-requires-clause-inside
read_values-requires-clause-inside g c =
    let layout = c.args.layout.now in let phase : ℕ = c.args.phase in let y : ℕ = c.args.rows.first + c.args.k in let key : TableKey = g.C.CellSource.table_key c.args.source.now c.args.seat.now in
    let r : Row key layout phase y = record { same = c.requires.layout; fit = c.requires.fit; inside = omega (arith, c.requires.row, c.requires.inside) } in
    let b = c.bands-bands.ensures.value in
    let n : c.piece-number.result ≡ piece_of layout.bands phase (band_of_row layout.bands y) = c.piece-number.ensures.value ∙ (λ i. piece_of (b i) phase (y / (b i).height)) in
    let w = c.row_values-wide.ensures.value in
    let t = row_ends key layout phase y r (some_per_row layout phase c.bands-bands.ensures.valid.some_width c.bands-bands.ensures.valid.some_plates) in
    rw (n, b, w) t

pub returns-clause-here : goal.returns-clause-here
returns-clause-here g c o l =
    let layout = c.args.layout.now in let phase : ℕ = c.args.phase in let y : ℕ = c.args.rows.first + c.args.k in let key : TableKey = g.C.CellSource.table_key c.args.source.now c.args.seat.now in
    let r : Row key layout phase y = record { same = c.requires.layout; fit = c.requires.fit; inside = omega (arith, c.requires.row, c.requires.inside) } in
    let b = c.bands-bands.ensures.value in
    let n : c.piece-number.result ≡ piece_of layout.bands phase (band_of_row layout.bands y) = c.piece-number.ensures.value ∙ (λ i. piece_of (b i) phase (y / (b i).height)) in
    let w = c.row_values-wide.ensures.value in
    ap (λ (z : ℕ). slice_index (g.V.CellValue.numbers c.read_values.new.out) (c.args.k * z + o)) (sym w)
    ∙ (c.read_values.ensures.here o (rw w l) ∙ ((λ i. value key.page.value layout (n i) (y % (b i).height * w i + o)) ∙ row_values_are key layout phase y o r l))

pub returns-clause-kept : goal.returns-clause-kept
returns-clause-kept g c i l = c.read_values.ensures.kept i (rw c.row_values-wide.ensures.value l)

pub overflow_mul-run : goal.overflow_mul-run
overflow_mul-run g c = grind (arith, common_steps)

pub overflow_cast-run-2 : goal.overflow_cast-run-2
overflow_cast-run-2 g c = grind (arith, common_steps)

pub overflow_mul-run-2 : goal.overflow_mul-run-2
overflow_mul-run-2 g c = grind (arith, common_steps)

pub overflow_cast-run-3 : goal.overflow_cast-run-3
overflow_cast-run-3 g c = grind (arith, common_steps)

pub read_values-requires-clause-out : goal.read_values-requires-clause-out
read_values-requires-clause-out g c = grind (arith, common_steps)

pub nonzero_rem-run : goal.nonzero_rem-run
nonzero_rem-run g c = grind (arith, common_steps)
