-- open_queue: an empty queue with so many places, and its opening pass.
use Rattle.trap_pool.proofs.Keeps.{begins}
use Rattle.trap_pool.proofs.rule.open_queue.Goals as goal

pub ruled-requires-clause-rule : goal.ruled-requires-clause-rule
ruled-requires-clause-rule g = begins
