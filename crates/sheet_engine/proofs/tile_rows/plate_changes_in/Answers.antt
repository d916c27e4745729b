-- The samples that change in a plate, by how many tints differ.
use Rattle.std.proofs.Common.{ℕ, Bool, ◌<◌, ◌+◌, ◌∙◌, not, ap, slice_index, arith}
use Rattle.std.specs.Prelude.{◌==◌}
use Rattle.lists.specs.Words.{count_below}
use Rattle.page_model.specs.Page.{width}
use Rattle.page_model.proofs.NumberSums.{counted, sum_same}
use Rattle.page_tally.proofs.CountLemmas.{changes_here}
use Rattle.sheet_geometry.specs.Areas.{changes_plate, one_if, traps}
use Rattle.sheet_engine.proofs.tile_rows.plate_changes_in.Goals as goal

pub returns-clause-count : goal.returns-clause-count
returns-clause-count c =
    let page = c.args.page.now in
    let left = c.args.left in
    let old = c.tints_from-old.result.now in
    let fresh = c.tints_from-new.result.now in
    let differs : ℕ → Bool = λ k. not (slice_index fresh k == slice_index old k) in
    c.differences.ensures.count
    ∙ ap (count_below differs) c.tints_from-new.ensures.len
    ∙ counted differs c.args.wide
    ∙ sum_same (λ k. one_if (differs k)) (λ k. changes_plate traps c.args.c page (record { x = left + k; y = c.args.y })) c.args.wide (λ k l.
    let inside : left + k < width page = omega (arith, c.requires.wide, l) in
    ap one_if (ap (λ (n : ℕ). not (n == slice_index old k)) (c.tints_from-new.ensures.each k l)
    ∙ (ap (λ (n : ℕ). not (slice_index c.args.after.now (left + k) == n)) (c.tints_from-old.ensures.each k l)
    ∙ changes_here page c.args.before.now c.args.after.now c.args.y c.args.c (left + k) (c.requires.tints (left + k) inside) (c.requires.news (left + k) inside))))
