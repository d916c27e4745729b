-- turns_back_within: within any bounds.
use Rattle.pgm_plates.proofs.Facts.{turns_back}
use Rattle.pgm_plates.proofs.laws.turns_back_within.Goals as goal

pub returns : goal.returns
returns c = turns_back c.args.bounds
