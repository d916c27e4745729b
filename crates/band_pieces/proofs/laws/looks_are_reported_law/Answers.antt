-- looks_are_told_law: what a receipt tells of looks, its last pass was told last, and no word that
-- it was told of a piece is less than an earlier one.
use Rattle.band_pieces.proofs.Left.{looks_are_reported}
use Rattle.band_pieces.proofs.laws.looks_are_reported_law.Goals as goal

pub returns : goal.returns
returns c = looks_are_reported
