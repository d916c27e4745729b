-- next_byte: goals that the search finds slowly.
use Rattle.std.proofs.lemmas.Grind.{common_steps}
use Rattle.std.proofs.Common.{arith}
use Rattle.trap_set.proofs.bytes.next_byte.Goals as goal

pub returns-in_err-count-clause-byte : goal.returns-in_err-count-clause-byte
returns-in_err-count-clause-byte c = grind (arith, common_steps)

pub returns-clause-byte : goal.returns-clause-byte
returns-clause-byte c = grind (arith, common_steps)
