-- The loops of write_core: writes the rows of the core of the strip that was trapped in the room
-- last, each plate by the rack of its number: as many rows of all plates at once as there is room
-- for.
use Rattle.std.proofs.Common.{◌≡◌, ℕ, ◌-◌, ◌≤◌, List, ◌++◌, length, map}
use Rattle.outside.specs.Rack.{RackState}
use Rattle.page_model.specs.Page.{plates}
use Rattle.plate_rows.specs.Images.{HaveWritten}
use Rattle.sheet_stream.specs.Cores.{AreOpen, core_rows_of}
use Rattle.sheet_stream.proofs.core_rows.write_core.Given as goal

abbrev pub invariant-loop-k : goal.invariant-loop-k
invariant-loop-k g l = record {
  inside : l.k ≤ l.cut.row.core;
  line_long : length l.line ≡ length l.fn.line;
  workspace_left : 2 ≤ length l.bytes;
  racks_same : length l.racks ≡ length l.fn.racks;
  are_open : AreOpen l.header (plates l.strip) (map g.R.Rack.state l.racks);
  written : (names : List (List ℕ)) (tints : ℕ → List ℕ) (start : List RackState) → HaveWritten names l.header (plates l.strip) tints start (map g.R.Rack.state l.fn.racks) → HaveWritten names l.header (plates l.strip) (λ c. tints c ++ core_rows_of l.strip l.cut l.k c) start (map g.R.Rack.state l.racks);
}

abbrev pub decreases-loop-k : goal.decreases-loop-k
decreases-loop-k g l = l.cut.row.core - l.k
