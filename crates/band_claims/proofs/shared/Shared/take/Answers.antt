-- Shared::take: the exchange of a claim.
use Rattle.std.proofs.lemmas.Grind.{common_steps}
use Rattle.std.proofs.Common.{ap, ◌∙◌, sym, arith, ◌<◌, ◌≡◌, ℕ, None, true}
use Rattle.page_model.specs.Bands.{pieces_of}
use Rattle.band_core.specs.Needs.{is_need}
use Rattle.band_claims.specs.Views.{Knows}
use Rattle.band_claims.proofs.Steps.{claims}
use Rattle.band_claims.proofs.shared.Shared.take.Goals as goal

pub compare_exchange-found-requires : goal.compare_exchange-found-requires
compare_exchange-found-requires c =
    let key = c.self.inside.table.shared.key in
    let within : c.args.piece < pieces_of key.layout.bands = rw (ap (λ z. z.table_key) c.self.view_is) c.requires.piece in
    let idle : c.pass.inside.seat.me.0.stored ≡ None = ap (λ z. z.view.stored) c.pass.view_is ∙ c.requires.idle in
    let known : (n : ℕ) → is_need key.layout.bands c.args.piece n ≡ true → Knows c.pass.inside.seat.me.0 n =
    rw (ap (λ z. z.table_key) c.self.view_is, ap (λ z. z.view) c.pass.view_is) c.requires.known in (
      ap (λ z. z.table) c.pass.view_is ∙ (c.requires.pass.table ∙ sym (ap (λ z. z.table) c.self.view_is)),
      omega (arith, within, c.self.invariant.wide),
      claims key c.self.invariant.fit _ _ _ _ within idle c.pass.invariant.2 known,
    )

pub returns-clause-answer : goal.returns-clause-answer
returns-clause-answer c = grind (arith, common_steps)
