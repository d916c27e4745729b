-- is_some_input_written: whether some plate that is read is written too.
use Rattle.std.proofs.Common.{arith}
use Rattle.std.proofs.lemmas.Grind.{common_steps}
use Rattle.plain_words.proofs.written.+is_some_input_written.Goals as goal

pub returns-then-is_written : goal.returns-then-is_written
returns-then-is_written g c = grind (arith, common_steps)

pub returns-else-is_written : goal.returns-else-is_written
returns-else-is_written g c = grind (arith, common_steps)

pub returns-in-empty : goal.returns-in-empty
returns-in-empty g c = grind (arith, common_steps)
