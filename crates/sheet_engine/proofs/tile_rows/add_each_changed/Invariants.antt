-- How far the loops of `add_each_changed` have come.
use Rattle.std.proofs.Common.{length}
use Rattle.sheet_geometry.specs.Areas.{changes_in, traps}
use Rattle.sheet_engine.specs.Growth.{Grows, row_sum}
use Rattle.sheet_engine.proofs.tile_rows.add_each_changed.Given as goal

abbrev pub invariant-loop-k : goal.invariant-loop-k
invariant-loop-k l = Grows (length l.page.zones) (λ z. row_sum (changes_in traps z l.page) l.y l.left l.k) l.fn.counts l.counts
