-- trap_row: goals that the search finds slowly.
use Rattle.std.proofs.Common.{arith}
use Rattle.std.proofs.lemmas.Grind.{common_steps}
use Rattle.row_values.proofs.tints.trap_row.Goals as goal

pub trap_samples-requires-clause-places : goal.trap_samples-requires-clause-places
trap_samples-requires-clause-places c = grind (arith, common_steps)

pub trap_samples-requires-clause-out : goal.trap_samples-requires-clause-out
trap_samples-requires-clause-out c = grind (arith, common_steps)

pub invariant_of-workspace : goal.invariant_of-workspace
invariant_of-workspace c = grind (arith, common_steps)

pub trap_samples-requires-clause-tints : goal.trap_samples-requires-clause-tints
trap_samples-requires-clause-tints c = grind (arith, common_steps)

pub trap_samples-requires-clause-answers : goal.trap_samples-requires-clause-answers
trap_samples-requires-clause-answers c = grind (arith, common_steps)

pub nearest_arms-requires-clause-columns : goal.nearest_arms-requires-clause-columns
nearest_arms-requires-clause-columns c = grind (arith, common_steps)

pub returns-clause-out : goal.returns-clause-out
returns-clause-out c = grind (arith, common_steps)

pub trap_samples-requires-clause-zones : goal.trap_samples-requires-clause-zones
trap_samples-requires-clause-zones c = grind (arith, common_steps)

pub nearest_arms-requires-clause-arms : goal.nearest_arms-requires-clause-arms
nearest_arms-requires-clause-arms c = grind (arith, common_steps)

pub nearest_arms-requires-clause-places : goal.nearest_arms-requires-clause-places
nearest_arms-requires-clause-places c = grind (arith, common_steps)
