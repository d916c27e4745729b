-- may_reach: goals that the search finds slowly.
use Rattle.std.proofs.Common.{arith}
use Rattle.std.proofs.lemmas.Grind.{common_steps}
use Rattle.trap_color.proofs.trapped.may_reach.Goals as goal

pub is_near-requires-clause-factor : goal.is_near-requires-clause-factor
is_near-requires-clause-factor c = grind (arith, common_steps)

pub is_near-requires-clause-width : goal.is_near-requires-clause-width
is_near-requires-clause-width c = grind (arith, common_steps)
