-- The loops of is_shut: whether an OpaqueIgnore ink has a tint above 0 at the sample, which then
-- takes no part in trapping.
use Rattle.std.proofs.Common.{◌≡◌, ◌&&◌}
use Rattle.std.specs.Prelude.{nat_lt}
use Rattle.page_model.specs.Density.{shuts}
use Rattle.page_model.specs.Page.{plates, tint, ink_at}
use Rattle.lists.specs.Words.{any_below}
use Rattle.neutral_density.proofs.shut.is_shut.Given as goal

abbrev pub invariant-loop-c : goal.invariant-loop-c
invariant-loop-c l = record { end : l.c-end ≡ plates l.page; any : l.any ≡ any_below (λ c. shuts (ink_at l.page c).kind && nat_lt 0 (tint l.page c l.p)) l.c }
