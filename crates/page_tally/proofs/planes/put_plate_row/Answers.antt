-- put_plate_row: puts the new tints of plate c into row y of its plane, where they are not those of
-- the page, and tells how many are not.
use Rattle.std.proofs.Common.{◌∙◌, arith}
use Rattle.page_tally.specs.Standing.{IsTintRow}
use Rattle.page_tally.proofs.CountLemmas.{row_alike, row_differences}
use Rattle.page_tally.proofs.StandingLemmas.{row_same}
use Rattle.page_tally.proofs.planes.put_plate_row.Goals as goal

pub returns-then-are_same : goal.returns-then-are_same
returns-then-are_same c =
    let before : IsTintRow c.args.page.now c.args.y c.args.c c.tints_of_row-before.result.now = record { long = c.tints_of_row-before.ensures.len; each = c.tints_of_row-before.ensures.each } in
    let same = c.are_same.ensures.same c.if-are_same.true in
    record {
      plane = row_same c.args.page.now c.args.y c.args.c c.args.plane.now c.tints_of_row-before.result.now c.args.after.now c.requires.line same before c.requires.after c.requires.plane;
      count = row_alike c.args.page.now c.tints_of_row-before.result.now c.args.after.now c.args.y c.args.c same before c.requires.after;
      few = omega arith;
    }

pub returns-clause-count : goal.returns-clause-count
returns-clause-count c = c.differences_by_blocks.ensures.count ∙ row_differences c.args.page.now c.tints_of_row-before.result.now c.args.after.now c.args.y c.args.c _ c.requires.after.long c.tints_of_row-before.ensures.each c.requires.after.each
