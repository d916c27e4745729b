-- The loops of Sheet::bare_row: notes for each sample of a row of plate c 2 where it has no ink,
-- else 1.
use Rattle.std.proofs.Common.{◌≡◌, ◌+◌, ◌<◌, ℕ, slice_index}
use Rattle.misregister.specs.Risk.{is_outline}
use Rattle.misregister.specs.Sweep.{bit}
use Rattle.misregister.proofs.sheet.Sheet.outline_row.Given as goal

abbrev pub invariant-loop-x : goal.invariant-loop-x
invariant-loop-x g l = (k : ℕ) → k < l.x → slice_index l.row k ≡ 1 + bit (is_outline l.self l.c k l.y)
