-- The loops of add_strip: adds the new tints of the strip that was trapped in the room last after
-- those of the strips above it, plate by plate.
use Rattle.std.proofs.Common.{◌≡◌, length}
use Rattle.std.specs.Prelude.{map}
use Rattle.page_model.specs.Page.{plates, width}
use Rattle.sheet_geometry.specs.Areas.{traps}
use Rattle.sheet_geometry.specs.Plans.{tile_of}
use Rattle.sheet_geometry.specs.Tiles.{strip_rows}
use Rattle.sheet_engine.specs.Workspaces.{columns_in}
use Rattle.sheet_files.proofs.Extending.{AreExtending}
use Rattle.sheet_files.proofs.whole.add_strip.Given as goal

abbrev pub invariant-loop-c : goal.invariant-loop-c
invariant-loop-c l = record { line : length l.line ≡ width l.sheet; out : AreExtending (plates l.sheet) l.c (λ c. strip_rows traps c l.sheet (map (λ column. tile_of column l.row) (columns_in l.workspace)) l.row.core) l.fn.out l.out }
