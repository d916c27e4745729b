-- What holds each time round the loop of reach_of_job.
use Rattle.std.proofs.Common.{◌≡◌, length}
use Rattle.lists.specs.Words.{greatest_below}
use Rattle.page_model.specs.Reach.{zone_reach}
use Rattle.trap_c.specs.Places.{job_parts}
use Rattle.trap_c.proofs.halo.reach_of_job.Given as goal

abbrev pub invariant-loop-z : goal.invariant-loop-z
invariant-loop-z l = record {
  end : l.z-end ≡ length l.job.zones;
  reach : l.reach ≡ greatest_below (zone_reach (job_parts l.job)) l.z;
}
