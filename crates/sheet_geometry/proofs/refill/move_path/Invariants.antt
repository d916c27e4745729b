-- The loops of move_path: puts the moved vertices of a path in the place of as many others.
use Rattle.std.proofs.Common.{◌≡◌, length, take}
use Rattle.std.specs.Prelude.{map}
use Rattle.sheet_geometry.specs.Windows.{moved_vertex}
use Rattle.sheet_geometry.proofs.refill.move_path.Given as goal

abbrev pub invariant-loop-k : goal.invariant-loop-k
invariant-loop-k l = record {
  count : length l.moved ≡ length l.path;
  done : take l.k l.moved ≡ map (moved_vertex l.right l.up) (take l.k l.path);
}
