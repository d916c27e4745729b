-- into_reply: goals that the search finds slowly.
use Rattle.std.proofs.lemmas.Grind.{common_steps}
use Rattle.std.proofs.Common.{arith}
use Rattle.trap_pool.proofs.gathered.Gathered.into_reply.Goals as goal

pub of_parts-requires-clause-kind : goal.of_parts-requires-clause-kind
of_parts-requires-clause-kind c = grind (arith, common_steps)

pub returns : goal.returns
returns c = grind (arith, common_steps)
