-- What holds each time round the loop of gather_lines.
use Rattle.std.proofs.Common.{◌≡◌, ◌≤◌, length, take, vec_capacity}
use Rattle.trap_pool.specs.Pools.{InTurn}
use Rattle.trap_pool.specs.Replies.{accepted, most_in_all}
use Rattle.trap_pool.specs.Taking.{pages_of}
use Rattle.trap_pool.proofs.gathering.gather_lines.Given as goal

abbrev pub invariant-loop-number : goal.invariant-loop-number
invariant-loop-number g l = record {
  turn : InTurn 0 0 (take l.number l.lines) (g.T.Tray.state l.fn.tray) (g.T.Tray.state l.tray) l.gathered.items;
  count : length l.gathered.items ≡ l.number;
  used : l.used ≡ accepted l.gathered.items;
  few : l.used ≤ most_in_all;
  workspace : length l.lines ≤ vec_capacity l.gathered;
  pages : l.pages.items ≡ pages_of l.gathered.items;
  page_workspace : length l.lines ≤ vec_capacity l.pages;
}
