-- The loops of are_all_done: whether all pieces are done.
use Rattle.std.proofs.Common.{◌≡◌, ℕ, ◌<◌}
use Rattle.page_model.specs.Bands.{pieces_of}
use Rattle.band_claims.specs.Seating.{Seats}
use Rattle.band_claims.specs.Views.{Knows, Looks}
use Rattle.band_pieces.proofs.pages.are_all_done.Given as goal

abbrev pub invariant-loop-piece : goal.invariant-loop-piece
invariant-loop-piece l = record {
  end : l.piece-end ≡ pieces_of l.shared.table_key.layout.bands;
  reader : Seats l.shared l.reader;
  looks : Looks l.initial.reader.view l.reader.view;
  known : (i : ℕ) → i < l.piece → Knows l.reader.view i;
}
