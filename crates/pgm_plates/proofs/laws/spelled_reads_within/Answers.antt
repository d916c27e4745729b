-- spelled_reads_within: within any bounds.
use Rattle.pgm_plates.proofs.Spelling.{spelled_reads_within}
use Rattle.pgm_plates.proofs.laws.spelled_reads_within.Goals as goal

pub returns : goal.returns
returns c = spelled_reads_within c.args.bounds
