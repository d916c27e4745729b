-- push_line: pushes a line, or finds the queue full and hands the line back.
use Rattle.trap_pool.proofs.Keeps.{pushes, learns}
use Rattle.trap_pool.proofs.rule.push_line.Goals as goal

pub push_as-requires-clause-rule : goal.push_as-requires-clause-rule
push_as-requires-clause-rule g c = (pushes _ _ _ _ c.requires.mark c.requires.above, learns _ _)
