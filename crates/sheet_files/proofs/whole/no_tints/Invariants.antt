-- The loops of no_tints: an empty list of tints for each plate.
use Rattle.std.proofs.Common.{◌≡◌, ℕ, [], length}
use Rattle.std.specs.Prelude.{slice_index_or}
use Rattle.sheet_files.proofs.whole.no_tints.Given as goal

abbrev pub invariant-loop : goal.invariant-loop
invariant-loop l = record { long : length l.out ≡ l.counter; each : (k : ℕ) → slice_index_or l.out k [] ≡ [] }
