-- are_all_plates: whether each word is a plate.
use Rattle.std.proofs.Common.{arith}
use Rattle.std.proofs.lemmas.Grind.{common_steps}
use Rattle.plain_words.proofs.plates.+are_all_plates.Goals as goal

pub returns-then-is_plate : goal.returns-then-is_plate
returns-then-is_plate g c = grind (arith, common_steps)

pub returns-else-is_plate : goal.returns-else-is_plate
returns-else-is_plate g c = grind (arith, common_steps)

pub returns-in-empty : goal.returns-in-empty
returns-in-empty g c = grind (arith, common_steps)
