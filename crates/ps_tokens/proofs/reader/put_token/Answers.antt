-- put_token: goals that the search finds slowly.
use Rattle.std.proofs.lemmas.Grind.{common_steps}
use Rattle.std.proofs.Common.{arith}
use Rattle.ps_tokens.proofs.reader.put_token.Goals as goal

pub returns-else-is_opening-clause-put : goal.returns-else-is_opening-clause-put
returns-else-is_opening-clause-put c = grind (arith, common_steps)

pub returns-else-is_opening-clause-ends_put : goal.returns-else-is_opening-clause-ends_put
returns-else-is_opening-clause-ends_put c = grind (arith, common_steps)

pub returns-then-is_opening-clause-put : goal.returns-then-is_opening-clause-put
returns-then-is_opening-clause-put c = grind (arith, common_steps)
