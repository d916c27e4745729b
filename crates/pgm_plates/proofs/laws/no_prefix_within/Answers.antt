-- no_prefix_within: within any bounds.
use Rattle.pgm_plates.proofs.Facts.{no_prefix_within}
use Rattle.pgm_plates.proofs.laws.no_prefix_within.Goals as goal

pub returns : goal.returns
returns c = no_prefix_within c.args.bounds
