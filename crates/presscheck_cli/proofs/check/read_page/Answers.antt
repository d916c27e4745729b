-- read_page: goals that the search finds slowly.
use Rattle.std.proofs.Common.{arith}
use Rattle.std.proofs.lemmas.Grind.{common_steps}
use Rattle.presscheck_cli.proofs.check.read_page.Goals as goal

pub gather-requires-clause-named : goal.gather-requires-clause-named
gather-requires-clause-named g c = grind (arith, common_steps)

pub gather-requires-clause-some : goal.gather-requires-clause-some
gather-requires-clause-some g c = grind (arith, common_steps)

pub gather-requires-clause-few : goal.gather-requires-clause-few
gather-requires-clause-few g c = grind (arith, common_steps)
