-- The loops of put_strip_row: puts row k of the new tints of plate c of the strip that was trapped
-- in the room last.
use Rattle.std.proofs.Common.{◌≡◌, drop, length, take}
use Rattle.std.specs.Prelude.{map}
use Rattle.page_model.specs.Page.{width}
use Rattle.sheet_geometry.specs.Areas.{traps}
use Rattle.sheet_geometry.specs.Plans.{tile_of}
use Rattle.sheet_geometry.specs.Spans.{AreSpans}
use Rattle.sheet_geometry.specs.Tiles.{strip_row}
use Rattle.sheet_engine.specs.Workspaces.{columns_in}
use Rattle.sheet_engine.proofs.rows.put_strip_row.Given as goal

abbrev pub invariant-loop-j : goal.invariant-loop-j
invariant-loop-j l = record {
  spans : AreSpans l.across l.left (drop l.j (columns_in l.workspace)) (width l.strip);
  long : length l.out ≡ width l.strip;
  done : take l.left l.out ≡ strip_row traps l.c l.strip l.k (map (λ column. tile_of column l.row) (take l.j (columns_in l.workspace)));
}
