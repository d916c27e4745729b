-- The loops of finish_alone: makes each piece that is not done, in order, from the closed words
-- alone, and adds it to the list of the pieces that were made alone.
use Rattle.std.proofs.Common.{◌≡◌}
use Rattle.page_model.specs.Bands.{pieces_of}
use Rattle.band_pieces.specs.Fills.{FinishesTo}
use Rattle.band_pieces.proofs.alone.finish_alone.Given as goal

abbrev pub invariant-loop-piece : goal.invariant-loop-piece
invariant-loop-piece l = record {
  end : l.count ≡ pieces_of l.initial.closed.table_key.layout.bands;
  scratch : l.scratch ≡ l.initial.scratch;
  closed : FinishesTo l.initial.closed l.closed l.piece;
}
