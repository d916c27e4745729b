-- The loops of are_all_in: whether all of these samples lie in the zone.
use Rattle.std.proofs.Common.{◌≡◌, ◌<◌, ◌+◌, ℕ, true, slice_index}
use Rattle.sheet_engine.proofs.tile_rows.are_all_in.Given as goal

abbrev pub invariant-loop-k : goal.invariant-loop-k
invariant-loop-k l = l.all ≡ true → (j : ℕ) → j < l.k → slice_index l.zones (l.left + j) ≡ l.zone
