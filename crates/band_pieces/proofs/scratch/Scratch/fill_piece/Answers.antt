-- fill_piece: goals that the search finds slowly.
use Rattle.std.proofs.lemmas.Grind.{common_steps}
use Rattle.std.proofs.Common.{arith}
use Rattle.band_pieces.proofs.scratch.Scratch.fill_piece.Goals as goal

pub fill-requires-clause-piece : goal.fill-requires-clause-piece
fill-requires-clause-piece c = grind (arith, common_steps)

pub fill-requires-clause-workspace : goal.fill-requires-clause-workspace
fill-requires-clause-workspace c = grind (arith, common_steps)

pub invariant_of-self : goal.invariant_of-self
invariant_of-self c = grind (arith, common_steps)

pub fill-requires-clause-known : goal.fill-requires-clause-known
fill-requires-clause-known c = grind (arith, common_steps)
