-- open_in: the job is in the handle.
use Rattle.std.proofs.Common.{◌≡◌, rules, arith}
use Rattle.std.proofs.lemmas.Grind.{common_steps}
use Rattle.trap_c.proofs.opened.open_in.Goals as goal

pub returns-in-Ok-new : goal.returns-in-Ok-new
returns-in-Ok-new c =
    let same : c.in-Ok-new.whole.value.bytes.items ≡ c.args.job.now = first_of (cc, first_of (search rules, grind (arith, common_steps))) in
    (c.requires, (c.in-Ok-new.whole.value, c.of.ensures, same))
