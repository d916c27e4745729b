-- read_page: goals that the search finds slowly.
use Rattle.std.proofs.Common.{arith}
use Rattle.std.proofs.lemmas.Grind.{common_steps}
use Rattle.trapkeep_cli.proofs.carry.read_page.Goals as goal

pub gather-requires-clause-named : goal.gather-requires-clause-named
gather-requires-clause-named g c = grind (arith, common_steps)
