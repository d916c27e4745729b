-- What holds each time round the loop of planes_of.
use Rattle.std.proofs.Common.{◌≡◌, ◌<◌, ℕ, length}
use Rattle.std.specs.Prelude.{IsTrue}
use Rattle.trap_c.specs.Fit.{AreFit}
use Rattle.trap_c.specs.Planes.{planes_in, tints_in}
use Rattle.trap_c.specs.Sources.{numbers}
use Rattle.trap_c.proofs.planes.planes_of.Given as goal

abbrev pub invariant-loop-c : goal.invariant-loop-c
invariant-loop-c l = record {
  end : l.c-end ≡ length l.names;
  made : l.planes ≡ planes_in l.layout (numbers l.source) l.c;
  fit : IsTrue l.are_fit → (j : ℕ) → j < l.c → AreFit l.layout.maxval (tints_in l.layout (numbers l.source) j);
}
