-- note_plane: notes the samples of row y at which plate c, whose plane has all its new tints,
-- changes.
use Rattle.std.proofs.lemmas.Grind.{common_steps}
use Rattle.std.proofs.Common.{◌≡◌, ◌∙◌, ◌||◌, Bool, true, false, ap, arith, rules}
use Rattle.std.specs.Prelude.{slice_index_or}
use Rattle.page_tally.proofs.CountLemmas.{alike_here, changes_here, or_none}
use Rattle.page_tally.proofs.StandingLemmas.{taken_row}
use Rattle.page_tally.proofs.changes.note_plane.Goals as goal

pub returns-then-not-are_same-clause-each : goal.returns-then-not-are_same-clause-each
returns-then-not-are_same-clause-each c x l =
    let after = taken_row c.args.page.now c.args.y c.args.c c.width.result c.args.plane.now c.as_slice.result.now c.row_of-after.result.now c.width.ensures.value c.as_slice.ensures c.requires.plane c.requires.line c.row_of-after.ensures.each in
    c.note_differences.ensures.each x (omega (arith, l, c.row_of-after.ensures.len, c.width.ensures.value))
    ∙ ap (λ (b : Bool). slice_index_or c.args.changes.now x false || b) (changes_here c.args.page.now c.tints_of_row-before.result.now c.row_of-after.result.now c.args.y c.args.c x (c.tints_of_row-before.ensures.each x l) (after x l))

pub returns-else-not-are_same-clause-each : goal.returns-else-not-are_same-clause-each
returns-else-not-are_same-clause-each c x l =
    let after = taken_row c.args.page.now c.args.y c.args.c c.width.result c.args.plane.now c.as_slice.result.now c.row_of-after.result.now c.width.ensures.value c.as_slice.ensures c.requires.plane c.requires.line c.row_of-after.ensures.each in
    let same : c.are_same.result ≡ true = search rules in
    or_none _ _ (alike_here c.args.page.now c.tints_of_row-before.result.now c.row_of-after.result.now c.args.y c.args.c x (c.are_same.ensures.same same) (c.tints_of_row-before.ensures.each x l) (after x l))

pub row_of-after-requires-clause-inside : goal.row_of-after-requires-clause-inside
row_of-after-requires-clause-inside c = grind (arith, common_steps)
