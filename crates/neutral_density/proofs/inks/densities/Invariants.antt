-- The loops of densities: the neutral densities of two samples, summed together.
use Rattle.std.proofs.Common.{◌≡◌, ◌≤◌, ◌*◌}
use Rattle.page_model.specs.Density.{weight}
use Rattle.page_model.specs.Page.{plates, tint}
use Rattle.lists.specs.Words.{sum_below}
use Rattle.neutral_density.proofs.inks.densities.Given as goal

abbrev pub invariant-loop-c : goal.invariant-loop-c
invariant-loop-c l = record {
  end : l.c-end ≡ plates l.page;
  one : l.one ≡ sum_below (λ c. weight l.page c * tint l.page c l.p) l.c;
  one_bound : l.one ≤ l.c * 6553500000;
  two : l.two ≡ sum_below (λ c. weight l.page c * tint l.page c l.q) l.c;
  two_bound : l.two ≤ l.c * 6553500000;
}
