-- The loops of whiten: no plate has ink yet.
use Rattle.std.proofs.Common.{◌≡◌, ◌<◌, ℕ, slice_index}
use Rattle.misregister.proofs.count.whiten.Given as goal

abbrev pub invariant-loop-shade : goal.invariant-loop-shade
invariant-loop-shade l = (k : ℕ) → k < l.shade-index → slice_index l.shades k ≡ 2
