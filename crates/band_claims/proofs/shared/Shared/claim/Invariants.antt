-- The loops of Shared::claim: claims a piece.
use Rattle.band_claims.specs.Seating.{Seats}
use Rattle.band_claims.specs.Views.{Looks}
use Rattle.band_claims.proofs.Looking.{KnowsBefore}
use Rattle.band_claims.proofs.shared.Shared.claim.Given as goal

abbrev pub invariant-loop-k : goal.invariant-loop-k
invariant-loop-k l = record {
  pass : Seats l.self l.pass;
  looks : Looks l.initial.pass.view l.pass.view;
  known : KnowsBefore l.self.table_key.layout.bands l.piece l.k l.pass.view;
}
