-- look: what the pass knows of the lines in the queue at one moment of the call.
use Rattle.trap_pool.proofs.Keeps.{learns}
use Rattle.trap_pool.proofs.rule.look.Goals as goal

pub learn_as-requires-clause-rule : goal.learn_as-requires-clause-rule
learn_as-requires-clause-rule g = learns _ _
