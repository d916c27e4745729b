-- The loops of have_distinct_names: whether no two of the files have one name.
use Rattle.std.proofs.Common.{◌≢◌, ℕ, ◌<◌}
use Rattle.outside.specs.MemFiles.{file_at}
use Rattle.outside.proofs.distinct_names.have_distinct_names.Given as goal

abbrev pub invariant-loop-place : goal.invariant-loop-place
invariant-loop-place l = (i j : ℕ) → i < j → j < l.place → (file_at l.files i).name ≢ (file_at l.files j).name
