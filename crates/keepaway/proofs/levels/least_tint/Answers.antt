use Rattle.std.proofs.Common.{◌*◌}
use Rattle.keepaway.proofs.LevelLemmas.{rounded_up}
use Rattle.keepaway.proofs.levels.least_tint.Goals as goal

pub returns : goal.returns
returns c = λ t. rounded_up (c.args.limit * c.args.full) t
