-- What holds each time round the loop of slots_of.
use Rattle.std.proofs.Common.{◌≡◌, ◌≤◌, ◌++◌, length, vec_capacity, vec_len}
use Rattle.std.specs.Vec.Iter.{into_iter_items}
use Rattle.trap_pool.proofs.taking.slots_of.Given as goal

abbrev pub invariant-loop-page : goal.invariant-loop-page
invariant-loop-page g l = record {
  left : l.fn.pages.items ≡ l.yielded ++ into_iter_items l.page-iterator;
  count : vec_len l.slots ≡ length l.yielded;
  workspace : vec_len l.fn.pages ≤ vec_capacity l.slots;
}
