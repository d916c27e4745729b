-- one_sequence: bytes are plate files of one list of plates at most, one directly after the other.
use Rattle.pgm_plates.proofs.OneSequence.{one_sequence}
use Rattle.pgm_plates.proofs.laws.one_sequence.Goals as goal

pub returns : goal.returns
returns c = one_sequence
