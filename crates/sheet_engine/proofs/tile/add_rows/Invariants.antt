-- The loops of add_rows: adds what is counted in a core, row by row.
use Rattle.std.proofs.Common.{◌≡◌, length}
use Rattle.page_model.specs.Page.{width}
use Rattle.sheet_engine.specs.Growth.{AddsArea}
use Rattle.sheet_engine.proofs.tile.add_rows.Given as goal

abbrev pub invariant-loop-k : goal.invariant-loop-k
invariant-loop-k l = record { changes : length l.changes ≡ width l.page; counts : AddsArea l.page l.core.left l.core.top l.core.width l.k l.fn.counts l.counts }
