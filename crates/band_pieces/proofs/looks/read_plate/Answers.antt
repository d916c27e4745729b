-- read_plate: the new tints of one plate in row y, from the cells of its band.
use Rattle.std.proofs.Common.{◌+◌, ◌*◌, ◌/◌, ◌∙◌, ap, sym, arith}
use Rattle.page_model.specs.declared.parts.PageParts.{PageParts}
use Rattle.page_model.proofs.BandLemmas.{piece_inside, row_in_band}
use Rattle.band_core.specs.Values.{row_value}
use Rattle.band_pieces.proofs.Stored.{lies_for, plate_value}
use Rattle.band_pieces.proofs.looks.read_plate.Goals as goal

pub read_plate_row-requires-clause-known : goal.read_plate_row-requires-clause-known
read_plate_row-requires-clause-known g c =
    let layout = c.args.layout.now in let lies = lies_for _ c.args.page.now layout c.requires.page c.requires.layout c.requires.fit in let tall = lies.tall in
    c.requires.known _ (piece_inside 3 (c.args.y / layout.bands.height) layout.bands.count (omega arith) (row_in_band layout.bands c.args.y lies.made.bands (omega (arith, c.requires.row, tall))))

pub read_plate_row-requires-clause-row : goal.read_plate_row-requires-clause-row
read_plate_row-requires-clause-row g c = let tall = (lies_for _ c.args.page.now c.args.layout.now c.requires.page c.requires.layout c.requires.fit).tall in omega (arith, c.requires.row, tall)

pub read_plate_row-requires-clause-plate : goal.read_plate_row-requires-clause-plate
read_plate_row-requires-clause-plate g c = let deep = (lies_for _ c.args.page.now c.args.layout.now c.requires.page c.requires.layout c.requires.fit).deep in omega (arith, c.requires.plate, deep)

pub read_plate_row-requires-clause-out : goal.read_plate_row-requires-clause-out
read_plate_row-requires-clause-out g c = let wide = (lies_for _ c.args.page.now c.args.layout.now c.requires.page c.requires.layout c.requires.fit).wide in c.requires.out ∙ sym wide

pub returns-clause-tints : goal.returns-clause-tints
returns-clause-tints g c x l =
    let lies = lies_for _ c.args.page.now c.args.layout.now c.requires.page c.requires.layout c.requires.fit in
    c.read_plate_row.ensures.here x (omega (arith, l, lies.wide))
    ∙ (ap (λ (p : PageParts). row_value p 3 c.args.y (c.args.plate * c.args.layout.now.width + x)) (sym c.requires.page)
    ∙ plate_value c.args.page.now c.args.layout.now.width c.args.plate x c.args.y lies.wide l)
