-- one_piece_each_law: each cell is one of one piece, and of no other.
use Rattle.band_core.proofs.Places.{owner, owner-is}
use Rattle.band_core.proofs.cell_laws.one_piece_each_law.Goals as goal

pub returns-clause-owner : goal.returns-clause-owner
returns-clause-owner c = owner

pub returns-clause-only : goal.returns-clause-only
returns-clause-only c = owner-is
