use Rattle.std.proofs.Common.{◌+◌, ◌<◌, ◌≤◌, ℕ}
use Rattle.lists.specs.Words.{square}
use Rattle.draw_back.specs.Lowers.{IsGrown}
use Rattle.draw_back.proofs.disk.grow.Given as goal

abbrev pub invariant-loop-h : goal.invariant-loop-h
invariant-loop-h l = record {
  best : IsGrown l.field l.fn.window l.y l.h l.best;
  near : (i : ℕ) → i < l.h → square i + square l.step ≤ l.fn.reach.limit;
}
