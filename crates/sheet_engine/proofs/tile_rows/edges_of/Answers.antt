-- The edges of some samples of a row, by their marks.
use Rattle.std.proofs.Common.{◌≡◌, ℕ, zero, suc, ◌+◌, ◌*◌, ◌/◌, ◌%◌, ◌<◌, ◌≤◌, ◌∙◌, ap, List, length, slice_index, arith}
use Rattle.lists.specs.Words.{sum_below}
use Rattle.page_model.specs.declared.parts.PageParts.{PageParts}
use Rattle.page_model.specs.Deciding.{lower_mark, right_mark}
use Rattle.page_model.specs.Page.{width}
use Rattle.page_model.proofs.NumberSums.{sum_same}
use Rattle.sheet_geometry.specs.Areas.{edges_at}
use Rattle.page_tally.specs.Standing.{AreMarks}
use Rattle.sheet_engine.specs.Growth.{row_sum}
use Rattle.sheet_engine.proofs.RowSums.{mark_edges, one_few}
use Rattle.sheet_engine.proofs.tile_rows.edges_of.Goals as goal

edges_few : (page : PageParts) (y left n : ℕ) → row_sum (edges_at page) y left n ≤ 2 * n
edges_few page y left zero = omega arith
edges_few page y left (suc n) = omega (arith, edges_few page y left n, one_few (right_mark page y (left + n)), one_few (lower_mark page y (left + n)))

by_marks : (page : PageParts) (marks part : List ℕ) (y left wide n : ℕ) → AreMarks page y marks → left + wide ≤ width page → length part ≡ wide → ((k : ℕ) → k < wide → slice_index part k ≡ slice_index marks (left + k)) → n ≡ sum_below (λ x. slice_index part x % 2 + slice_index part x / 2) (length part) → n ≡ row_sum (edges_at page) y left wide
by_marks page marks part y left wide n h inside long each en =
    en
    ∙ ap (sum_below (λ x. slice_index part x % 2 + slice_index part x / 2)) long
    ∙ sum_same (λ x. slice_index part x % 2 + slice_index part x / 2) (λ k. edges_at page (record { x = left + k; y = y })) wide (λ k l.
    ap (λ (m : ℕ). m % 2 + m / 2) (each k l ∙ h.each (left + k) (omega (arith, inside, l)))
    ∙ mark_edges (right_mark page y (left + k)) (lower_mark page y (left + k)))

pub returns-clause-count : goal.returns-clause-count
returns-clause-count c = by_marks c.args.page.now c.args.marks.now c.marks_from.result.now c.args.y c.args.left c.args.wide _ c.requires.marks c.requires.inside c.marks_from.ensures.len c.marks_from.ensures.each c.edges_in.ensures.count

pub returns-clause-few : goal.returns-clause-few
returns-clause-few c =
    let count = by_marks c.args.page.now c.args.marks.now c.marks_from.result.now c.args.y c.args.left c.args.wide _ c.requires.marks c.requires.inside c.marks_from.ensures.len c.marks_from.ensures.each c.edges_in.ensures.count in
    let few = edges_few c.args.page.now c.args.y c.args.left c.args.wide in
    omega (arith, count, few)
