-- The loops of first_difference: the first plate that differs from plate 0.
use Rattle.std.proofs.Common.{◌≡◌}
use Rattle.page_model.specs.Faults.{difference}
use Rattle.page_model.specs.Page.{plates}
use Rattle.lists.specs.Words.{first_some}
use Rattle.page_model.proofs.page.first_difference.Given as goal

abbrev pub invariant-loop-c : goal.invariant-loop-c
invariant-loop-c l = record { end : l.c-end ≡ plates l.parts; found : l.found ≡ first_some (difference l.parts) l.c }
