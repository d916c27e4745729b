-- change: goals that the search finds slowly.
use Rattle.std.proofs.lemmas.Grind.{common_steps}
use Rattle.std.proofs.Common.{arith}
use Rattle.band_core.proofs.board.Board.change.Goals as goal

pub index_mut-requires-then-not-any_empty : goal.index_mut-requires-then-not-any_empty
index_mut-requires-then-not-any_empty c = grind (arith, common_steps)

pub any_lacks-requires-clause-piece : goal.any_lacks-requires-clause-piece
any_lacks-requires-clause-piece c = grind (arith, common_steps)

pub index_mut-requires-then-any_takes : goal.index_mut-requires-then-any_takes
index_mut-requires-then-any_takes c = grind (arith, common_steps)

pub returns-then-not-any_empty-clause-layout : goal.returns-then-not-any_empty-clause-layout
returns-then-not-any_empty-clause-layout c = grind (arith, common_steps)

pub any_empty-requires-clause-piece : goal.any_empty-requires-clause-piece
any_empty-requires-clause-piece c = grind (arith, common_steps)

pub invariant_of-self : goal.invariant_of-self
invariant_of-self c = grind (arith, common_steps)

pub invariant_of-self-then-any_takes : goal.invariant_of-self-then-any_takes
invariant_of-self-then-any_takes c = grind (arith, common_steps)

pub returns-then-not-any_lacks-clause-after : goal.returns-then-not-any_lacks-clause-after
returns-then-not-any_lacks-clause-after c = grind (arith, common_steps)

pub returns-then-any_takes-clause-after : goal.returns-then-any_takes-clause-after
returns-then-any_takes-clause-after c = grind (arith, common_steps)

pub returns-then-not-any_empty-clause-after : goal.returns-then-not-any_empty-clause-after
returns-then-not-any_empty-clause-after c = grind (arith, common_steps)

pub invariant_of-self-then-not-any_empty : goal.invariant_of-self-then-not-any_empty
invariant_of-self-then-not-any_empty c = grind (arith, common_steps)

pub index_mut-requires : goal.index_mut-requires
index_mut-requires c = grind (arith, common_steps)
