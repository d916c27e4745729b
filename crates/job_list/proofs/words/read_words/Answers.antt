-- read_words: goals that the search finds slowly.
use Rattle.std.proofs.Common.{arith}
use Rattle.std.proofs.lemmas.Grind.{common_steps}
use Rattle.job_list.proofs.words.read_words.Goals as goal

pub returns-in_ok-line_of_parts-in-len2-up : goal.returns-in_ok-line_of_parts-in-len2-up
returns-in_ok-line_of_parts-in-len2-up c = grind (arith, common_steps)

pub returns-else-not-is_empty : goal.returns-else-not-is_empty
returns-else-not-is_empty c = grind (arith, common_steps)

pub line_of_parts-requires-clause-some : goal.line_of_parts-requires-clause-some
line_of_parts-requires-clause-some c = grind (arith, common_steps)

pub returns-in_default : goal.returns-in_default
returns-in_default c = grind (arith, common_steps)

pub line_of_parts-requires-clause-few : goal.line_of_parts-requires-clause-few
line_of_parts-requires-clause-few c = grind (arith, common_steps)
