-- is_some_plate: whether some plate may be written into that file.
use Rattle.std.proofs.Common.{arith}
use Rattle.std.proofs.lemmas.Grind.{common_steps}
use Rattle.plain_words.proofs.written.+is_some_plate.Goals as goal

pub returns-else-may_be : goal.returns-else-may_be
returns-else-may_be g c = grind (arith, common_steps)

pub returns-then-may_be : goal.returns-then-may_be
returns-then-may_be g c = grind (arith, common_steps)
