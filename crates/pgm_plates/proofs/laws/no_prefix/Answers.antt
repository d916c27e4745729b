-- no_prefix: no plate file is a proper prefix of another.
use Rattle.pgm_plates.proofs.Facts.{no_prefix}
use Rattle.pgm_plates.proofs.laws.no_prefix.Goals as goal

pub returns : goal.returns
returns c = no_prefix
