-- The loops of replies_of: the replies to the lines, in their order, in the room, which has a place
-- for each.
use Rattle.std.proofs.Common.{◌≡◌, ◌≤◌, ◌++◌, vec_capacity, vec_len}
use Rattle.std.specs.Vec.Iter.{into_iter_items}
use Rattle.trap_pool.proofs.taking.replies_of.Given as goal

abbrev pub invariant-loop-line : goal.invariant-loop-line
invariant-loop-line l = record {
  made : l.replies.items ≡ l.yielded;
  left : l.fn.gathered.items ≡ l.yielded ++ into_iter_items l.line-iterator;
  workspace : vec_len l.fn.gathered ≤ vec_capacity l.replies;
}
