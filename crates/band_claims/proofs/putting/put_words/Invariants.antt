-- The loops of put_words: stores these words in the next cells of the piece that the pass holds,
-- whose defined values they are.
use Rattle.std.proofs.Common.{◌≡◌, ◌+◌}
use Rattle.band_claims.specs.Seating.{Seats}
use Rattle.band_claims.specs.Filled.{filled_to}
use Rattle.band_claims.proofs.putting.put_words.Given as goal

abbrev pub invariant-loop-k : goal.invariant-loop-k
invariant-loop-k l = record {
  pass : Seats l.shared l.pass;
  filled : l.pass.view ≡ filled_to (l.initial.pass.view.filled + l.k) l.initial.pass.view;
}
