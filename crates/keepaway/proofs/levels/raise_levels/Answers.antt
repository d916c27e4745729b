-- raise_levels: raises the levels of a row to those of a plate.
use Rattle.std.proofs.Common.{ℕ, max, slice_index, ap, ◌∙◌, arith}
use Rattle.keepaway.specs.Keepaway.{plate_level}
use Rattle.keepaway.proofs.RowLemmas.{entry_next, entry_later}
use Rattle.keepaway.proofs.levels.raise_levels.Goals as goal

pub loop-x-preserved : goal.loop-x-preserved
loop-x-preserved c =
    let value : ℕ → ℕ = λ i. max (slice_index c.args.levels.now i) (plate_level c.args.page.now c.args.limit (record { x = i; y = c.args.y }) c.args.c) in
    let x = c.loop-x.x in
    let new = c.loop-x.levels in
    record {
      done = entry_next c.args.levels.now new value x c.max.result (omega arith)
          (c.max.ensures ∙ ap (λ (n : ℕ). max n c.level_at-level.result) (c.loop-x.invariant.later x (omega arith)) ∙ ap (max (slice_index c.args.levels.now x)) c.level_at-level.ensures)
          c.loop-x.invariant.done;
      later = entry_later c.args.levels.now new x c.max.result c.loop-x.invariant.later;
    }
