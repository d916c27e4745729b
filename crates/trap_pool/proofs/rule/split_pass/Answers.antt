-- split_pass: a new pass with one part, which has pushed and taken nothing.
use Rattle.trap_pool.proofs.Keeps.{forks}
use Rattle.trap_pool.proofs.rule.split_pass.Goals as goal

pub another-requires-clause-rule : goal.another-requires-clause-rule
another-requires-clause-rule g = forks _ _ g.requires.parts
