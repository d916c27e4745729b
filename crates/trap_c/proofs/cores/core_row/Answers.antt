-- core_row: goals that the search finds slowly.
use Rattle.std.proofs.Common.{arith}
use Rattle.std.proofs.lemmas.Grind.{common_steps}
use Rattle.trap_c.proofs.cores.core_row.Goals as goal

pub returns : goal.returns
returns c = grind (arith, common_steps)

pub offset_bounds-tints-from : goal.offset_bounds-tints-from
offset_bounds-tints-from c = grind (arith, common_steps)
