-- The loops of no_planes: empty planes, to stand where those of the plates are put in.
use Rattle.std.proofs.Common.{◌≡◌, length}
use Rattle.trap_engine.proofs.workspace.no_planes.Given as goal

abbrev pub invariant-loop : goal.invariant-loop
invariant-loop l = length l.planes ≡ l.counter
