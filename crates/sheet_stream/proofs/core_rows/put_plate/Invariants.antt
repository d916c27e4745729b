-- The loops of put_plate: puts n rows of the core of one plate in a line, from row k on, from there
-- on.
use Rattle.std.proofs.Common.{◌≡◌, ◌+◌, ◌*◌, ◌++◌, drop, take}
use Rattle.page_model.specs.Page.{width}
use Rattle.sheet_stream.specs.Cores.{core_span_of}
use Rattle.sheet_stream.proofs.core_rows.put_plate.Given as goal

abbrev pub invariant-loop-i : goal.invariant-loop-i
invariant-loop-i l = record {
  put : l.line ≡ take l.from l.fn.line ++ (core_span_of l.strip l.cut l.k l.i l.c ++ drop (l.from + l.i * width l.strip) l.fn.line);
}
