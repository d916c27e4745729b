-- The loops of Sheet::row: the tints of plate c in a row, with a step for each of them.
use Rattle.std.proofs.Common.{◌≡◌, ◌+◌}
use Rattle.misregister.proofs.sheet.Sheet.row.Given as goal

abbrev pub invariant-loop : goal.invariant-loop
invariant-loop g l = l.steps ≡ l.initial.steps + l.counter
