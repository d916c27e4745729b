-- The loops of make_first: makes the first pieces, so many of them.
use Rattle.std.proofs.Common.{◌≡◌, None}
use Rattle.band_claims.specs.Seating.{Seats}
use Rattle.band_tests.proofs.left.make_first.Given as goal

abbrev pub invariant-loop-piece : goal.invariant-loop-piece
invariant-loop-piece l = record {
  scratch : l.scratch ≡ l.initial.scratch;
  pass : Seats l.shared l.pass;
  idle : l.pass.view.stored ≡ None;
}
