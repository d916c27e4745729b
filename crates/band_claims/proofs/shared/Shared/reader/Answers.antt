-- Shared::reader: a seat that reads alone, and has seen what the pass knows.
use Rattle.std.proofs.Common.{false, ap, ◌∙◌, sym, arith}
use Rattle.band_claims.proofs.Steps.{splits}
use Rattle.band_claims.proofs.shared.Shared.reader.Goals as goal

pub split_seat-requires : goal.split_seat-requires
split_seat-requires c = let key = c.self.inside.table.shared.key in (
  ap (λ z. z.table) c.pass.view_is ∙ (c.requires.pass.table ∙ sym (ap (λ z. z.table) c.self.view_is)),
  omega (arith, c.self.invariant.wide, c.self.invariant.fit.made.bands.some_bands),
  splits key c.self.invariant.fit _ false _ (ap (λ z. z.view.stored) c.pass.view_is ∙ c.requires.idle),
)
