-- details_from: goals that the search finds slowly.
use Rattle.std.proofs.lemmas.Grind.{common_steps}
use Rattle.std.proofs.Common.{arith}
use Rattle.job_parts.proofs.details.details_from.Goals as goal

pub returns-after-colorants-2 : goal.returns-after-colorants-2
returns-after-colorants-2 c = grind (arith, common_steps)
