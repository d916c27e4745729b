-- The loops of strip_tints: the new tints of plate c of the strip that was trapped in the room
-- last, row by row.
use Rattle.std.proofs.Common.{◌≡◌, length}
use Rattle.std.specs.Prelude.{map}
use Rattle.page_model.specs.Page.{width}
use Rattle.sheet_geometry.specs.Areas.{traps}
use Rattle.sheet_geometry.specs.Plans.{tile_of}
use Rattle.sheet_geometry.specs.Tiles.{strip_rows}
use Rattle.sheet_engine.specs.Workspaces.{columns_in}
use Rattle.sheet_engine.proofs.rows.strip_tints.Given as goal

abbrev pub invariant-loop-k : goal.invariant-loop-k
invariant-loop-k l = record {
  line : length l.line ≡ width l.strip;
  done : l.out.items ≡ strip_rows traps l.c l.strip (map (λ column. tile_of column l.row) (columns_in l.workspace)) l.k;
}
