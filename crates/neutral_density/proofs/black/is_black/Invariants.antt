-- The loops of is_black: whether the sample has an ink that counts as black by these parameters.
use Rattle.std.proofs.Common.{◌≡◌}
use Rattle.page_model.specs.Page.{plates}
use Rattle.page_model.specs.Within.{black_plate}
use Rattle.lists.specs.Words.{any_below}
use Rattle.neutral_density.proofs.black.is_black.Given as goal

abbrev pub invariant-loop-c : goal.invariant-loop-c
invariant-loop-c l = record { end : l.c-end ≡ plates l.page; any : l.any ≡ any_below (black_plate l.page l.params l.p) l.c }
