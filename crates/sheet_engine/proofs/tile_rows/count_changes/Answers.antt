-- count_changes: how many of these samples of row y change.
use Rattle.std.proofs.Common.{ℕ, false, ◌<◌, ◌+◌, ◌∙◌, ap, arith}
use Rattle.std.specs.Prelude.{slice_index_or}
use Rattle.page_model.specs.Counts.{sample_changes}
use Rattle.page_model.specs.Page.{width}
use Rattle.sheet_geometry.specs.Areas.{one_if}
use Rattle.sheet_engine.proofs.RowSums.{one_few, row_next}
use Rattle.sheet_engine.proofs.tile_rows.count_changes.Goals as goal

pub overflow_add-count : goal.overflow_add-count
overflow_add-count c =
    let one = c.one_if-count.ensures in
    let most = one_few (slice_index_or c.args.changes.now (c.args.left + c.loop-k.k) false) in
    let few = c.loop-k.invariant.few in
    omega (arith, one, most, few)

pub loop-k-preserved : goal.loop-k-preserved
loop-k-preserved c =
    let x : ℕ = c.args.left + c.loop-k.k in
    let inside : x < width c.args.page.now = omega (arith, c.requires.inside) in
    let one = c.one_if-count.ensures in
    let most = one_few (slice_index_or c.args.changes.now x false) in
    let few = c.loop-k.invariant.few in
    record {
      count = row_next (λ p. one_if (sample_changes c.args.page.now p)) c.args.y c.args.left c.loop-k.k c.loop-k.count c.one_if-count.result c.loop-k.invariant.count (one ∙ ap one_if (c.requires.each x inside));
      few = omega (arith, one, most, few);
    }
