-- Counts that are all 0: so far.
use Rattle.std.proofs.Common.{◌≡◌, ◌<◌, ◌≤◌, ℕ, true}
use Rattle.std.specs.Prelude.{slice_index}
use Rattle.zone_map.proofs.gaps.are_none.Given as goal

abbrev pub invariant-loop-k : goal.invariant-loop-k
invariant-loop-k l = l.all ≡ true → (k : ℕ) → l.from ≤ k → k < l.k → slice_index l.counts k ≡ 0
