-- The loops of density: the neutral density of a sample.
use Rattle.std.proofs.Common.{◌≡◌, ◌≤◌, ◌*◌}
use Rattle.page_model.specs.Density.{weight}
use Rattle.page_model.specs.Page.{plates, tint}
use Rattle.lists.specs.Words.{sum_below}
use Rattle.neutral_density.proofs.inks.density.Given as goal

abbrev pub invariant-loop-c : goal.invariant-loop-c
invariant-loop-c l = record { end : l.c-end ≡ plates l.page; sum : l.total ≡ sum_below (λ c. weight l.page c * tint l.page c l.p) l.c; bound : l.total ≤ l.c * 6553500000 }
