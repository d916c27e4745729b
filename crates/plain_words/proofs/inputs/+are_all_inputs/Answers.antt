-- are_all_inputs: whether each word is an input.
use Rattle.std.proofs.Common.{arith}
use Rattle.std.proofs.lemmas.Grind.{common_steps}
use Rattle.plain_words.proofs.inputs.+are_all_inputs.Goals as goal

pub returns-then-is_input_word : goal.returns-then-is_input_word
returns-then-is_input_word c = grind (arith, common_steps)

pub returns-else-is_input_word : goal.returns-else-is_input_word
returns-else-is_input_word c = grind (arith, common_steps)

pub returns-in-empty : goal.returns-in-empty
returns-in-empty c = grind (arith, common_steps)
