-- What holds each time round the loop of fill.
use Rattle.std.proofs.Common.{◌≡◌, ◌*◌, length}
use Rattle.std.specs.Prelude.{IsTrue}
use Rattle.trap_c.specs.Fit.{AreFit}
use Rattle.trap_c.specs.Planes.{rows_in}
use Rattle.trap_c.specs.Sources.{numbers}
use Rattle.trap_c.proofs.source.Source.fill.Given as goal

abbrev pub invariant-loop-y : goal.invariant-loop-y
invariant-loop-y l = record {
  row : length l.row ≡ l.layout.width;
  tints : l.tints.items ≡ rows_in l.layout (numbers l.self) (l.fn.c * l.layout.height) l.y;
  fit : IsTrue l.are_fit → AreFit l.layout.maxval (rows_in l.layout (numbers l.self) (l.fn.c * l.layout.height) l.y);
}
