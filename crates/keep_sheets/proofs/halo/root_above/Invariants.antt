-- The loop of root_above: the least number whose square is more than the limit, or one more than all numbers so far.
use Rattle.std.proofs.Common.{◌≡◌, ℕ, ◌<◌, ◌≤◌, ◌⊎◌}
use Rattle.lists.specs.Words.{square}
use Rattle.keep_sheets.proofs.halo.root_above.Given as goal

abbrev pub invariant-loop-r : goal.invariant-loop-r
invariant-loop-r l = record {
  above : (l.limit < square l.root) ⊎ (l.root ≡ l.r);
  least : (n : ℕ) → l.limit < square n → l.root ≤ n;
  few : l.root ≤ l.r;
}
