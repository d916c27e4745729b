-- copy_of: zones that are moved by nothing are the same.
use Rattle.std.proofs.Common.{◌≡◌, rules, arith}
use Rattle.std.proofs.lemmas.Grind.{common_steps}
use Rattle.std.specs.Prelude.{map}
use Rattle.sheet_geometry.specs.Windows.{moved_zone}
use Rattle.trap_c.proofs.MovedJobs.{same_job}
use Rattle.trap_c.proofs.opened.copy_of.Goals as goal

pub returns : goal.returns
returns c =
    let zones : c.in_ok-zones.zones ≡ map (moved_zone 0 0) c.args.job.now.zones = first_of (cc, first_of (search rules, grind (arith, common_steps))) in
    let details : c.in_ok-details.details ≡ c.args.job.now.details = first_of (cc, first_of (search rules, grind (arith, common_steps))) in
    same_job c.args.job.now c.in_ok-zones.zones c.in_ok-details.details zones details
