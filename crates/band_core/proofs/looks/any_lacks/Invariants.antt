-- The loops of any_lacks: whether some need of a piece is not done.
use Rattle.std.proofs.Common.{◌≡◌, true, false}
use Rattle.lists.specs.Words.{count_below}
use Rattle.band_core.specs.Needs.{is_need}
use Rattle.band_core.specs.Places.{piece_count}
use Rattle.band_core.proofs.LookLemmas.{Lacks, DoneBefore}
use Rattle.band_core.proofs.looks.any_lacks.Given as goal

abbrev pub invariant-loop-k : goal.invariant-loop-k
invariant-loop-k l = record {
  end : l.k-end ≡ count_below (is_need l.layout.bands l.piece) (piece_count l.layout);
  some : l.any ≡ true → Lacks l.layout l.states l.piece;
  all : l.any ≡ false → DoneBefore l.layout l.states l.piece l.k;
}
