-- +are_all_copies: goals that the search finds slowly.
use Rattle.std.proofs.Common.{arith}
use Rattle.std.proofs.lemmas.Grind.{common_steps}
use Rattle.trapset_cli.proofs.plates.+are_all_copies.Goals as goal

pub returns-then-is_copy_word : goal.returns-then-is_copy_word
returns-then-is_copy_word c = grind (arith, common_steps)
