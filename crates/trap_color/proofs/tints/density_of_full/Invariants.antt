-- The loops of density_of_full: the neutral density of the full tints.
use Rattle.std.proofs.Common.{◌≡◌, ◌≤◌, ◌*◌}
use Rattle.page_model.specs.Density.{weight}
use Rattle.page_model.specs.Page.{plates}
use Rattle.page_model.specs.Tints.{full}
use Rattle.lists.specs.Words.{sum_below}
use Rattle.trap_color.proofs.tints.density_of_full.Given as goal

abbrev pub invariant-loop-c : goal.invariant-loop-c
invariant-loop-c l = record { end : l.c-end ≡ plates l.page; sum : l.total ≡ sum_below (λ c. weight l.page c * full l.page l.p l.e c) l.c; bound : l.total ≤ l.c * 6553500000 }
