-- read_strip: goals that the search finds slowly.
use Rattle.std.proofs.lemmas.Grind.{common_steps}
use Rattle.std.proofs.Common.{arith}
use Rattle.sheet_stream.proofs.stored_rows.read_strip.Goals as goal

pub returns : goal.returns
returns c = grind (arith, common_steps)
