-- spelled_reads: the canonical spelling of a plate is a plate file of it.
use Rattle.pgm_plates.proofs.Spelling.{spelled_reads}
use Rattle.pgm_plates.proofs.laws.spelled_reads.Goals as goal

pub returns : goal.returns
returns c = spelled_reads
