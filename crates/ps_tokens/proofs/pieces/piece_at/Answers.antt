-- piece_at: goals that the search finds slowly.
use Rattle.std.proofs.Common.{arith}
use Rattle.std.proofs.lemmas.Grind.{common_steps}
use Rattle.ps_tokens.proofs.pieces.piece_at.Goals as goal

pub run_piece-requires : goal.run_piece-requires
run_piece-requires c = grind (arith, common_steps)
