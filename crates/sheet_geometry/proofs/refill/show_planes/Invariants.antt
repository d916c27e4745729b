-- The loops of show_planes: puts what a window shows of each plane in the place of as many planes
-- with as many tints.
use Rattle.std.proofs.Common.{◌≡◌, ℕ, ◌*◌, ◌<◌, ◌≤◌, length, take}
use Rattle.std.specs.Prelude.{map}
use Rattle.page_model.specs.Planes.{plane_at}
use Rattle.sheet_geometry.specs.Windows.{shown_plane}
use Rattle.sheet_geometry.proofs.refill.show_planes.Given as goal

abbrev pub invariant-loop-c : goal.invariant-loop-c
invariant-loop-c l = record {
  count : length l.shown ≡ length l.planes;
  done : take l.c l.shown ≡ map (shown_plane l.wide l.cut) (take l.c l.planes);
  rest : (j : ℕ) → l.c ≤ j → j < length l.planes → length (plane_at l.shown j).tints ≡ l.cut.width * l.cut.height;
}
