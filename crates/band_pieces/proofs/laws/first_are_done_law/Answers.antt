-- first_are_done_law: a piece that needs no other was published by a pass before the table was
-- closed.
use Rattle.band_pieces.proofs.Left.{first_are_done}
use Rattle.band_pieces.proofs.laws.first_are_done_law.Goals as goal

pub returns : goal.returns
returns c = first_are_done
