-- The loops of agrees: whether the board answers so to each event, from its opening on.
use Rattle.std.proofs.Common.{◌≡◌}
use Rattle.band_tests.proofs.board.agrees.Given as goal

abbrev pub invariant-loop-event : goal.invariant-loop-event
invariant-loop-event l = l.board.layout ≡ l.layout
