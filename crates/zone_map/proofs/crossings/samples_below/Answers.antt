-- samples_below: how many samples of a row have their middles left of a point of it, which is given
-- times the rise.
use Rattle.zone_map.proofs.Leans.{floor-left}
use Rattle.zone_map.proofs.crossings.samples_below.Goals as goal

pub returns-then-count-from-clause-left : goal.returns-then-count-from-clause-left
returns-then-count-from-clause-left c = rw c.from-half.ensures (λ x _. floor-left x c.args.across c.args.rise c.requires.rises)
