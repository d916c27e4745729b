-- left_for_needs_law: of a piece that nobody had claimed when the table was closed, the last pass
-- tells of a need that it found not done.
use Rattle.band_pieces.proofs.Left.{left_for_needs}
use Rattle.band_pieces.proofs.laws.left_for_needs_law.Goals as goal

pub returns : goal.returns
returns c = left_for_needs
