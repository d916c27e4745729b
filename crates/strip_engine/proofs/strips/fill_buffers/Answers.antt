-- fill_buffers: the zones and marks of a page.
use Rattle.std.proofs.Common.{arith}
use Rattle.std.proofs.lemmas.Grind.{common_steps}
use Rattle.strip_engine.proofs.strips.fill_buffers.Goals as goal

pub returns-clause-buffers : goal.returns-clause-buffers
returns-clause-buffers c = record { zones = grind (arith, common_steps); marks = grind (arith, common_steps); row = c.requires.buffers.row }

pub fill_marks-requires-clause-out : goal.fill_marks-requires-clause-out
fill_marks-requires-clause-out c = grind (arith, common_steps)
