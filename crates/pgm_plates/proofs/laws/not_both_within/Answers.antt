-- not_both_within: within any bounds.
use Rattle.pgm_plates.proofs.Facts.{not_both_within}
use Rattle.pgm_plates.proofs.laws.not_both_within.Goals as goal

pub returns : goal.returns
returns c = not_both_within c.args.bounds
