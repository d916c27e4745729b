-- The loops of plane_tints: the tints of one plate, from its tints in the eight colours.
use Rattle.std.proofs.Common.{◌≡◌}
use Rattle.lists.specs.Words.{list_below}
use Rattle.page_source.specs.Sample.{tint_at}
use Rattle.page_source.proofs.sample.plane_tints.Given as goal

abbrev pub invariant-loop-place : goal.invariant-loop-place
invariant-loop-place l = l.made.items ≡ list_below (tint_at l.tints l.number l.width) l.place
