-- push_name: goals that the search finds slowly.
use Rattle.std.proofs.lemmas.Grind.{common_steps}
use Rattle.std.proofs.Common.{arith}
use Rattle.outside.proofs.disk_file.push_name.Goals as goal

pub push-requires-2-text-part : goal.push-requires-2-text-part
push-requires-2-text-part c = grind (arith, common_steps)
