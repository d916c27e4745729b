-- number_piece: a number of these digits and what stands after them.
use Rattle.std.proofs.Common.{arith}
use Rattle.std.proofs.lemmas.Grind.{common_steps}
use Rattle.ps_tokens.specs.Pieces.{number_piece}
use Rattle.ps_tokens.proofs.numbers.number_piece.Goals as goal

pub returns-clause-value : goal.returns-clause-value
unfolding number_piece
returns-clause-value c = grind (arith, common_steps)
