-- tiling_law: where the cores of windows tile a sheet, each plate's new tints are those of the
-- cores, row by row, and what is counted is the sum of what is counted in the cores.
use Rattle.sheet_geometry.proofs.Tiles.{tiling_law}
use Rattle.sheet_geometry.proofs.laws.tiling_law.Goals as goal

pub returns : goal.returns
returns c = λ halo rule sheet strips local enough is. tiling_law rule local halo sheet enough strips is
