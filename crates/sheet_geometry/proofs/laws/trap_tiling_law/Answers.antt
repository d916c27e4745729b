-- trap_tiling_law: the counts and the new tints of a sheet that is trapped are those of its cores.
use Rattle.sheet_geometry.proofs.Tiles.{trap_tiling_law}
use Rattle.sheet_geometry.proofs.laws.trap_tiling_law.Goals as goal

pub returns : goal.returns
returns c = trap_tiling_law
