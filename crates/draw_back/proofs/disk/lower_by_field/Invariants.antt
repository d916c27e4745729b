use Rattle.std.proofs.Common.{◌+◌, ◌-◌, ◌<◌, ◌≤◌, ℕ}
use Rattle.lists.specs.Words.{square}
use Rattle.draw_back.specs.Fields.{scene_of}
use Rattle.draw_back.specs.Lowers.{Lowers, IsGrown, IsOfFar}
use Rattle.draw_back.proofs.disk.lower_by_field.Given as goal

abbrev pub invariant-loop-k : goal.invariant-loop-k
invariant-loop-k l = record {
  lowers : Lowers l.initial.out l.out l.window.from l.window.to (IsOfFar (scene_of l.field l.fn.reach.limit) l.y (l.fn.reach.radius + 1 - l.k));
  best : IsGrown l.field l.window l.y l.grown l.best;
  near : (i : ℕ) → i < l.grown → square i + square (l.fn.reach.radius + 1 - l.k) ≤ l.fn.reach.limit;
  most : l.grown ≤ l.fn.reach.radius + 1;
}
