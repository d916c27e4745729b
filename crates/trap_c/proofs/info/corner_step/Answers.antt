-- corner_step: the least step of the resolution.
use Rattle.std.proofs.Common.{◌<◌, length, arith}
use Rattle.std.proofs.lemmas.Grind.{common_steps}
use Rattle.trap_c.proofs.CornerSteps.{corner_step_is}
use Rattle.trap_c.proofs.info.corner_step.Goals as goal

pub returns-else-len-le1 : goal.returns-else-len-le1
returns-else-len-le1 c =
    let many : 1 < length c.args.job.now.zones = first_of (omega arith, grind (arith, common_steps)) in
    corner_step_is c.args.job.now c.step_of.result many c.step_of.ensures.some c.step_of.ensures.exact c.step_of.ensures.least
