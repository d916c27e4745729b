use Rattle.std.proofs.Common.{◌≡◌, ◌<◌, ◌⊎◌, ℕ}
use Rattle.lists.specs.Words.{square}
use Rattle.draw_back.proofs.reach.Reach.of.Given as goal

abbrev pub invariant-loop-r : goal.invariant-loop-r
invariant-loop-r l = record {
  reached : (r : ℕ) → l.radius < r → r < l.r → l.limit < square r;
  short : (l.radius < l.r) ⊎ ((l.radius ≡ 0) × (l.r ≡ 0));
}
