-- Shared::join: one pass of two, which has published and seen what both had, and has the shares of
-- both.
use Rattle.std.proofs.lemmas.Grind.{common_steps}
use Rattle.std.proofs.Common.{ap, ◌∙◌, sym, arith}
use Rattle.band_claims.proofs.Steps.{joins}
use Rattle.band_claims.proofs.shared.Shared.join.Goals as goal

pub join_seat-requires : goal.join_seat-requires
join_seat-requires c = let key = c.self.inside.table.shared.key in (
  ap (λ z. z.table) c.one.view_is ∙ (c.requires.one.table ∙ sym (ap (λ z. z.table) c.self.view_is)),
  ap (λ z. z.table) c.two.view_is ∙ (c.requires.two.table ∙ sym (ap (λ z. z.table) c.self.view_is)),
  c.two.invariant.0,
  omega (arith, c.self.invariant.wide, c.self.invariant.fit.made.bands.some_bands),
  joins key c.self.invariant.fit _ _ _ _ (ap (λ z. z.view.stored) c.one.view_is ∙ c.requires.one_idle) (ap (λ z. z.view.stored) c.two.view_is ∙ c.requires.two_idle),
)

pub invariant_of-one : goal.invariant_of-one
invariant_of-one c = grind (arith, common_steps)
