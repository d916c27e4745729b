-- read_marks: the marks of these rows, from the cells of their bands.
use Rattle.std.proofs.Common.{◌/◌, sym, subst, arith}
use Rattle.page_model.specs.declared.parts.PageParts.{PageParts}
use Rattle.page_model.proofs.BandLemmas.{piece_inside, row_in_band}
use Rattle.band_core.specs.Places.{per_row}
use Rattle.band_core.specs.Values.{row_value}
use Rattle.row_values.specs.Rows.{HoldsRows}
use Rattle.band_pieces.proofs.Stored.{lies_for, marks_from}
use Rattle.band_pieces.proofs.looks.read_marks.Goals as goal

pub read_rows-requires-clause-known : goal.read_rows-requires-clause-known
read_rows-requires-clause-known g c y from below =
    let layout = c.args.layout.now in let lies = lies_for _ c.args.page.now layout c.requires.page c.requires.layout c.requires.fit in let tall = lies.tall in
    c.requires.known _ (piece_inside 1 (y / layout.bands.height) layout.bands.count (omega arith) (row_in_band layout.bands y lies.made.bands (omega (arith, below, c.requires.inside, tall))))

pub read_rows-requires-clause-inside : goal.read_rows-requires-clause-inside
read_rows-requires-clause-inside g c = let tall = (lies_for _ c.args.page.now c.args.layout.now c.requires.page c.requires.layout c.requires.fit).tall in omega (arith, c.requires.inside, tall)

pub returns-clause-marks : goal.returns-clause-marks
returns-clause-marks g c =
    let lies = lies_for _ c.args.page.now c.args.layout.now c.requires.page c.requires.layout c.requires.fit in
    marks_from c.args.page.now c.args.layout.now c.args.rows c.read_rows.new.out lies.wide (subst (λ (p : PageParts). HoldsRows (per_row c.args.layout.now 1) (row_value p 1) c.args.rows c.read_rows.new.out) (sym c.requires.page) c.read_rows.ensures.rows)
