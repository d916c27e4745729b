-- The loops of put_samples: puts the new tints of plate c into row y of its plane, sample by sample
-- from one on and before another.
use Rattle.std.proofs.Common.{◌+◌, ◌*◌}
use Rattle.page_model.specs.Page.{width}
use Rattle.page_tally.specs.Standing.{IsTrappedTo}
use Rattle.page_tally.proofs.planes.put_samples.Given as goal

abbrev pub invariant-loop-x : goal.invariant-loop-x
invariant-loop-x l = IsTrappedTo l.page l.c (l.y * width l.page + l.x) l.plane
