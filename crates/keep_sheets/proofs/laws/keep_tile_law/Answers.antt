-- keep_tile_law: the core of a tile is as on the sheet.
use Rattle.keep_sheets.proofs.RuleLemmas.{keep_tile}
use Rattle.keep_sheets.proofs.laws.keep_tile_law.Goals as goal

pub returns : goal.returns
returns c = keep_tile
