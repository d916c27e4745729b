-- make_zone: goals that the search finds slowly.
use Rattle.std.proofs.Common.{arith}
use Rattle.std.proofs.lemmas.Grind.{common_steps}
use Rattle.job_reader.proofs.zones.make_zone.Goals as goal

pub returns-then-vertices-gt-MOST_VERTICES_IN_ALL : goal.returns-then-vertices-gt-MOST_VERTICES_IN_ALL
returns-then-vertices-gt-MOST_VERTICES_IN_ALL c = grind (arith, common_steps)

pub returns-then-len-ge-MOST_JOB_ZONES : goal.returns-then-len-ge-MOST_JOB_ZONES
returns-then-len-ge-MOST_JOB_ZONES c = grind (arith, common_steps)
