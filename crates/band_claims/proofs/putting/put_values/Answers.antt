-- put_values: goals that the search finds slowly.
use Rattle.std.proofs.lemmas.Grind.{common_steps}
use Rattle.std.proofs.Common.{arith}
use Rattle.band_claims.proofs.putting.put_values.Goals as goal

pub put_cells-requires-in_default-clause-phase : goal.put_cells-requires-in_default-clause-phase
put_cells-requires-in_default-clause-phase c = grind (arith, common_steps)
