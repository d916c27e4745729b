-- The loops of some_ink_shuts: whether some ink of the page shuts the samples that it covers.
use Rattle.std.proofs.Common.{◌≡◌}
use Rattle.page_model.specs.Density.{shuts}
use Rattle.page_model.specs.Page.{ink_at, plates}
use Rattle.lists.specs.Words.{any_below}
use Rattle.edge_rule.proofs.pairs.some_ink_shuts.Given as goal

abbrev pub invariant-loop-c : goal.invariant-loop-c
invariant-loop-c l = record { end : l.c-end ≡ plates l.page; any : l.any ≡ any_below (λ c. shuts (ink_at l.page c).kind) l.c }
