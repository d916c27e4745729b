-- put_plate: puts the new tints of plate c into its row y, where they are not those of the page.
use Rattle.std.proofs.Common.{◌∙◌}
use Rattle.page_tally.specs.Standing.{IsPlateRow, IsTintRow}
use Rattle.page_tally.proofs.StandingLemmas.{plate_same}
use Rattle.page_tally.proofs.planes.put_plate.Goals as goal

pub returns-then-are_same : goal.returns-then-are_same
returns-then-are_same c =
    let before : IsTintRow c.args.page.now c.args.y c.args.c c.tints_of_row-before.result.now = record { long = c.tints_of_row-before.ensures.len; each = c.tints_of_row-before.ensures.each } in
    let after : IsPlateRow c.args.page.now c.args.y c.args.c c.plate_row-after.result.now = record { long = c.plate_row-after.ensures.len; each = λ x l. c.plate_row-after.ensures.each x l ∙ c.requires.row.each c.args.c x c.requires.plate l } in
    plate_same c.args.page.now c.args.planes.now c.args.y c.args.c c.tints_of_row-before.result.now c.plate_row-after.result.now c.requires.line (c.are_same.ensures.same c.if-are_same.true) before after c.requires.planes
