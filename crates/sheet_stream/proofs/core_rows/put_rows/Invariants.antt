-- The loops of put_rows: puts n rows of the core of the strip that was trapped in the room last in
-- `line`, from row k on.
use Rattle.std.proofs.Common.{◌≡◌, ℕ, ◌*◌, ◌<◌, length}
use Rattle.page_model.specs.Page.{plates, width}
use Rattle.plate_rows.specs.Images.{part_at}
use Rattle.sheet_stream.specs.Cores.{core_span_of}
use Rattle.sheet_stream.proofs.core_rows.put_rows.Given as goal

abbrev pub invariant-loop-c : goal.invariant-loop-c
invariant-loop-c l = record {
  end : l.c-end ≡ plates l.strip;
  long : length l.line ≡ length l.fn.line;
  done : (j : ℕ) → j < l.c → part_at (l.n * width l.strip) l.line j ≡ core_span_of l.strip l.cut l.k l.n j;
}
