-- The loops of is_new: whether no earlier file has the name of the one at that place.
use Rattle.std.proofs.Common.{◌≢◌, ℕ, ◌<◌}
use Rattle.outside.specs.MemFiles.{file_at}
use Rattle.outside.proofs.distinct_names.is_new.Given as goal

abbrev pub invariant-loop-earlier : goal.invariant-loop-earlier
invariant-loop-earlier l = (k : ℕ) → k < l.earlier → (file_at l.files k).name ≢ (file_at l.files l.place).name
