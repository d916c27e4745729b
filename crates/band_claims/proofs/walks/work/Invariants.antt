-- The loops of work: walks over the pieces, claims and makes those that it can, and ends after a
-- walk that won nothing.
use Rattle.std.proofs.Common.{◌≡◌, ℕ, ◌+◌, ◌-◌, ◌<◌, length, None, false, if◌then◌else◌}
use Rattle.page_model.specs.Bands.{pieces_of}
use Rattle.band_claims.specs.Seating.{Seats}
use Rattle.band_claims.specs.Accounts.{IsAccounted, Publishes, Recalls}
use Rattle.band_claims.proofs.walks.work.Given as goal

abbrev pub invariant-loop-won : goal.invariant-loop-won
invariant-loop-won g l = record {
  maker : g.M.Maker.serves l.maker l.shared.table_key;
  workspace : g.M.Maker.workspace l.maker ≡ g.M.Maker.workspace l.initial.maker;
  pass : Seats l.shared l.pass;
  idle : l.pass.view.stored ≡ None;
  published : Publishes l.initial.pass.view l.pass.view;
  reported : Recalls l.initial.pass.view l.pass.view;
  share : l.pass.view.share ≡ l.initial.pass.view.share;
  accounted : l.won ≡ false → (i : ℕ) → i < pieces_of l.shared.table_key.layout.bands → IsAccounted l.shared.table_key.layout.bands l.pass.view i;
}

abbrev pub decreases-loop-won : goal.decreases-loop-won
decreases-loop-won g l = if l.won then pieces_of l.shared.table_key.layout.bands - length l.pass.view.published + 1 else 0
