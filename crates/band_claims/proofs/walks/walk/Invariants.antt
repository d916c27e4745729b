-- The loops of walk: one walk over the pieces in order.
use Rattle.std.proofs.Common.{◌≡◌, ℕ, ◌+◌, ◌<◌, ◌≤◌, length, None, true, false}
use Rattle.page_model.specs.Bands.{pieces_of}
use Rattle.band_claims.specs.Seating.{Seats}
use Rattle.band_claims.specs.Accounts.{IsAccounted, Publishes, Recalls}
use Rattle.band_claims.proofs.walks.walk.Given as goal

abbrev pub invariant-loop-piece : goal.invariant-loop-piece
invariant-loop-piece g l = record {
  maker : g.M.Maker.serves l.maker l.shared.table_key;
  workspace : g.M.Maker.workspace l.maker ≡ g.M.Maker.workspace l.initial.maker;
  pass : Seats l.shared l.pass;
  idle : l.pass.view.stored ≡ None;
  published : Publishes l.initial.pass.view l.pass.view;
  reported : Recalls l.initial.pass.view l.pass.view;
  share : l.pass.view.share ≡ l.initial.pass.view.share;
  few : l.won ≡ true → length l.pass.view.published ≤ pieces_of l.shared.table_key.layout.bands;
  more : l.won ≡ true → length l.initial.pass.view.published + 1 ≤ length l.pass.view.published;
  accounted : l.won ≡ false → (i : ℕ) → i < l.piece → IsAccounted l.shared.table_key.layout.bands l.pass.view i;
}
