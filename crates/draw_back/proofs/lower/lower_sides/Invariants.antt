use Rattle.std.proofs.Common.{◌<◌, ◌≤◌, ◌^◌, ℕ, slice_index}
use Rattle.draw_back.specs.Lowers.{Lowers, IsOfSide}
use Rattle.draw_back.proofs.lower.lower_sides.Given as goal

abbrev pub invariant-loop-x : goal.invariant-loop-x
invariant-loop-x l = record {
  lowers : Lowers l.initial.out l.out l.fn.window.from l.x (IsOfSide l.best l.fn.window.from l.fn.window.halo l.step);
  small : (i : ℕ) → l.fn.window.from ≤ i → i < l.x → slice_index l.initial.out i < 2 ^ 16;
}
