-- The edges of a row, one block further.
use Rattle.std.proofs.Common.{◌≡◌, ◌+◌, ◌/◌, ◌%◌, ℕ, arith, slice_index}
use Rattle.lists.specs.Words.{sum_below}
use Rattle.page_model.proofs.NumberSums.{sum_add}
use Rattle.page_tally.proofs.counting.edges_in.Goals as goal

pub loop-x-preserved : goal.loop-x-preserved
loop-x-preserved c =
    let edges : ℕ → ℕ = λ x. slice_index c.args.marks.now x % 2 + slice_index c.args.marks.now x / 2 in
    let more : sum_below edges (c.loop-x.x + c.min-size.result) ≡ sum_below edges c.loop-x.x + sum_below (λ k. edges (c.loop-x.x + k)) c.min-size.result = sum_add edges c.loop-x.x c.min-size.result in
    record {
      inside = omega (arith, c.min-size.ensures, c.loop-x.invariant.inside);
      count = omega (arith, more, c.loop-x.invariant.count, c.edges_here-count.ensures.count);
      few = omega (arith, c.loop-x.invariant.few, c.edges_here-count.ensures.few);
    }
