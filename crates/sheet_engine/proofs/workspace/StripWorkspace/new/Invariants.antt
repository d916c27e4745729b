-- The loops of StripRoom::new: all memory that strips of this one's form and number of rows are
-- trapped in, cut into these columns.
use Rattle.std.proofs.Common.{◌≡◌, take}
use Rattle.std.specs.Prelude.{map}
use Rattle.std.specs.List.{All}
use Rattle.sheet_engine.specs.declared.workspace.WindowWorkspace.{WindowWorkspace}
use Rattle.sheet_engine.specs.Workspaces.{IsWindowWorkspace}
use Rattle.sheet_geometry.specs.Forms.{form_of}
use Rattle.sheet_engine.proofs.workspace.StripWorkspace.new.Given as goal

abbrev pub invariant-loop-column : goal.invariant-loop-column
invariant-loop-column l = record {
  columns : map (λ (w : WindowWorkspace). w.column) l.windows ≡ take l.column-index l.columns;
  each : All (IsWindowWorkspace (form_of l.strip) l.row.wide) l.windows;
}
