-- The loops of build_hull: the hull of all arms, and how many entries it has.
use Rattle.std.proofs.Common.{◌≤◌, ◌≡◌, ◌+◌, ◌*◌, length}
use Rattle.row_envelope.specs.Hull.{IsHull}
use Rattle.row_envelope.proofs.hull.build_hull.Given as goal

abbrev pub invariant-loop-i : goal.invariant-loop-i
invariant-loop-i g l = record { end : l.i-end ≡ length l.arms; places : length l.places ≡ length l.initial.places; starts : length l.starts ≡ length l.initial.starts; cost : l.steps + l.stored ≤ l.initial.steps + 2 * l.i; hull : IsHull l.arms l.i l.last l.places l.starts l.stored }
