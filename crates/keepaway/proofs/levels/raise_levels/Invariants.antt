use Rattle.std.proofs.Common.{◌≡◌, ◌<◌, ◌≤◌, ℕ, max, slice_index}
use Rattle.keepaway.specs.Keepaway.{plate_level}
use Rattle.keepaway.proofs.levels.raise_levels.Given as goal

abbrev pub invariant-loop-x : goal.invariant-loop-x
invariant-loop-x l = record {
  done : (i : ℕ) → i < l.x → slice_index l.levels i ≡ max (slice_index l.initial.levels i) (plate_level l.page l.limit (record { x = i; y = l.y }) l.c);
  later : (i : ℕ) → l.x ≤ i → slice_index l.levels i ≡ slice_index l.initial.levels i;
}
