-- A block without a mark has no edge.
use Rattle.std.proofs.Common.{◌∙◌, ◌+◌, ◌/◌, ◌%◌, ℕ, ap, sym, slice_index}
use Rattle.page_model.proofs.NumberSums.{sum_none, sum_same}
use Rattle.page_tally.proofs.counting.edges_here.Goals as goal

pub returns-then-are_unmarked-clause-count : goal.returns-then-are_unmarked-clause-count
returns-then-are_unmarked-clause-count c =
    sym (sum_same (λ k. slice_index c.args.marks.now (c.args.from + k) % 2 + slice_index c.args.marks.now (c.args.from + k) / 2) (λ k. 0) c.args.count (λ k l. ap (λ (m : ℕ). m % 2 + m / 2) (c.are_unmarked.ensures c.if-are_unmarked.true k l)) ∙ sum_none c.args.count)
