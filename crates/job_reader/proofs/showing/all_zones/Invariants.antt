-- The loops of all_zones: a zone and then others, these as they are where Trapping is true or
-- false.
use Rattle.std.proofs.Common.{◌≡◌, ◌∷◌}
use Rattle.std.specs.Prelude.{map}
use Rattle.job_reader.specs.Statements.{under_trapping}
use Rattle.job_reader.proofs.showing.all_zones.Given as goal

abbrev pub invariant-loop-zone : goal.invariant-loop-zone
invariant-loop-zone l = l.zones.items ≡ l.fn.first ∷ map (under_trapping l.trapping) l.yielded
