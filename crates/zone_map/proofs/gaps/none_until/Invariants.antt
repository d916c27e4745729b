-- Places next before one that have no crossing: those gone over so far.
use Rattle.std.proofs.Common.{◌≡◌, ◌<◌, ◌≤◌, ◌+◌, ◌-◌, ℕ}
use Rattle.std.specs.Prelude.{slice_index}
use Rattle.zone_map.proofs.gaps.none_until.Given as goal

abbrev pub invariant-loop-count : goal.invariant-loop-count
invariant-loop-count l = record {
  few : l.count ≤ l.most;
  ups : (k : ℕ) → l.x ≤ k + l.count → k < l.x → slice_index l.ups k ≡ 0;
  downs : (k : ℕ) → l.x ≤ k + l.count → k < l.x → slice_index l.downs k ≡ 0;
}

abbrev pub decreases-loop-count : goal.decreases-loop-count
decreases-loop-count l = l.most - l.count
