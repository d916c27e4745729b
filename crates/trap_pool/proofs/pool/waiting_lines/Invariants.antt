-- The loops of waiting_lines: the lines whose pages wait to be trapped, in order.
use Rattle.std.proofs.Common.{◌≤◌, length, vec_capacity, vec_len}
use Rattle.trap_pool.specs.Rule.{Ascends, IsAbove}
use Rattle.trap_pool.proofs.pool.waiting_lines.Given as goal

abbrev pub invariant-loop-number : goal.invariant-loop-number
invariant-loop-number l = record {
  ascends : Ascends l.numbers.items;
  above : IsAbove l.number l.numbers.items;
  few : vec_len l.numbers ≤ l.number;
  workspace : length l.pages ≤ vec_capacity l.numbers;
}
