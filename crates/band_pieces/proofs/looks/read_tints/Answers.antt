-- read_tints: the new tints of these rows, in each row plate after plate, from the cells of their
-- bands.
use Rattle.std.proofs.Common.{◌/◌, sym, subst, arith}
use Rattle.page_model.specs.declared.parts.PageParts.{PageParts}
use Rattle.page_model.proofs.BandLemmas.{piece_inside, row_in_band}
use Rattle.band_core.specs.Places.{per_row}
use Rattle.band_core.specs.Values.{row_value}
use Rattle.row_values.specs.Rows.{HoldsRows}
use Rattle.band_pieces.proofs.Stored.{lies_for, tints_from}
use Rattle.band_pieces.proofs.looks.read_tints.Goals as goal

pub read_rows-requires-clause-known : goal.read_rows-requires-clause-known
read_rows-requires-clause-known g c y from below =
    let layout = c.args.layout.now in let lies = lies_for _ c.args.page.now layout c.requires.page c.requires.layout c.requires.fit in let tall = lies.tall in
    c.requires.known _ (piece_inside 3 (y / layout.bands.height) layout.bands.count (omega arith) (row_in_band layout.bands y lies.made.bands (omega (arith, below, c.requires.inside, tall))))

pub read_rows-requires-clause-inside : goal.read_rows-requires-clause-inside
read_rows-requires-clause-inside g c = let tall = (lies_for _ c.args.page.now c.args.layout.now c.requires.page c.requires.layout c.requires.fit).tall in omega (arith, c.requires.inside, tall)

pub returns-clause-tints : goal.returns-clause-tints
returns-clause-tints g c =
    let lies = lies_for _ c.args.page.now c.args.layout.now c.requires.page c.requires.layout c.requires.fit in
    tints_from c.args.page.now c.args.layout.now c.args.rows c.read_rows.new.out lies.wide lies.deep (subst (λ (p : PageParts). HoldsRows (per_row c.args.layout.now 3) (row_value p 3) c.args.rows c.read_rows.new.out) (sym c.requires.page) c.read_rows.ensures.rows)
