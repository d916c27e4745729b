-- pop_line: takes a line, or finds none.
use Rattle.trap_pool.proofs.Keeps.{pops, learns}
use Rattle.trap_pool.proofs.rule.pop_line.Goals as goal

pub pop_as-requires-clause-rule : goal.pop_as-requires-clause-rule
pop_as-requires-clause-rule g c = (pops _ _ c.requires.part, learns _ _)
