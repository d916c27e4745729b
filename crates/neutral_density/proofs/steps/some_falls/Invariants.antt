-- How far the loops of `some_falls` have come.
use Rattle.std.proofs.Common.{◌≡◌}
use Rattle.page_model.specs.Apart.{falls}
use Rattle.page_model.specs.Page.{plates}
use Rattle.lists.specs.Words.{any_below}
use Rattle.neutral_density.proofs.steps.some_falls.Given as goal

abbrev pub invariant-loop-c : goal.invariant-loop-c
invariant-loop-c l = record { end : l.c-end ≡ plates l.page; any : l.any ≡ any_below (falls l.page l.zone l.p l.q) l.c }
