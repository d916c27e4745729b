use Rattle.std.proofs.Common.{◌≡◌, ◌-◌, ◌<◌, ◌≤◌, ℕ, false, slice_index}
use Rattle.keepaway.proofs.marks.has_black.Given as goal

abbrev pub invariant-loop-j : goal.invariant-loop-j
invariant-loop-j l = l.found ≡ false → (i : ℕ) → l.from - 1 ≤ i → i < l.j → slice_index l.row i ≡ 2 → ⊥
