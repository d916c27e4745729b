-- The loops of put_each: puts the new tints of plate c into row y of its plane, block by block.
use Rattle.std.proofs.Common.{◌≤◌, ◌+◌, ◌-◌, ◌*◌}
use Rattle.page_model.specs.Page.{width}
use Rattle.page_tally.specs.Standing.{IsTrappedTo}
use Rattle.page_tally.proofs.planes.put_each.Given as goal

abbrev pub invariant-loop-x : goal.invariant-loop-x
invariant-loop-x l = record { inside : l.x ≤ width l.page; plane : IsTrappedTo l.page l.c (l.y * width l.page + l.x) l.plane }

abbrev pub decreases-loop-x : goal.decreases-loop-x
decreases-loop-x l = width l.page - l.x
