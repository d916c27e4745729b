-- traps_law: the trapping rule is local.
use Rattle.sheet_geometry.proofs.Tiles.{traps_local}
use Rattle.sheet_geometry.proofs.laws.traps_law.Goals as goal

pub returns : goal.returns
returns c = traps_local
