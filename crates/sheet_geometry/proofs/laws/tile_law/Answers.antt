-- tile_law: what a tile's window says of its core is so on the sheet.
use Rattle.sheet_geometry.proofs.Tiles.{tile_law}
use Rattle.sheet_geometry.proofs.laws.tile_law.Goals as goal

pub returns : goal.returns
returns c = λ halo rule sheet tile x y rows local enough is. tile_law rule local halo sheet enough tile x y rows is
