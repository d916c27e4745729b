-- raise_all: raises the levels of a row to those of its tints.
use Rattle.std.proofs.Common.{ℕ, max, nat_le, nat_lt, slice_index, ap, ◌∙◌, arith, if◌then◌else◌}
use Rattle.keepaway.proofs.RowLemmas.{entry_next, entry_later}
use Rattle.keepaway.proofs.levels.raise_all.Goals as goal

pub loop-x-preserved : goal.loop-x-preserved
loop-x-preserved c =
    let value : ℕ → ℕ = λ i. max (slice_index c.args.levels.now i) (if nat_lt 0 (slice_index c.args.tints.now i) then (if nat_le c.args.least (slice_index c.args.tints.now i) then 2 else 1) else 0) in
    let x = c.loop-x.x in
    let new = c.loop-x.levels in
    record {
      done = entry_next c.args.levels.now new value x c.max.result (omega arith)
          (c.max.ensures ∙ ap (λ (n : ℕ). max n c.level_from-level.result) (c.loop-x.invariant.later x (omega arith)) ∙ ap (max (slice_index c.args.levels.now x)) c.level_from-level.ensures)
          c.loop-x.invariant.done;
      later = entry_later c.args.levels.now new x c.max.result c.loop-x.invariant.later;
    }
