-- Shared::is_done: whether a piece is done.
use Rattle.std.proofs.lemmas.Grind.{common_steps}
use Rattle.std.proofs.Common.{ap, ◌∙◌, sym, arith, ◌<◌}
use Rattle.page_model.specs.Bands.{pieces_of}
use Rattle.band_claims.proofs.Steps.{looks}
use Rattle.band_claims.proofs.shared.Shared.is_done.Goals as goal

pub load-found-requires : goal.load-found-requires
load-found-requires c =
    let key = c.self.inside.table.shared.key in
    let within : c.args.piece < pieces_of key.layout.bands = rw (ap (λ z. z.table_key) c.self.view_is) c.requires.piece in (
      ap (λ z. z.table) c.pass.view_is ∙ (c.requires.pass.table ∙ sym (ap (λ z. z.table) c.self.view_is)),
      omega (arith, within, c.self.invariant.wide),
      looks key c.self.invariant.fit _ _ _ _ within,
    )

pub returns-clause-answer : goal.returns-clause-answer
returns-clause-answer c = grind (arith, common_steps)
