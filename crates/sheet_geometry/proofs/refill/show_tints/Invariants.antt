-- The loops of show_tints: puts the tints that a window shows in the place of as many others.
use Rattle.std.proofs.Common.{◌≡◌, ◌*◌, length, take}
use Rattle.sheet_geometry.specs.Shown.{shown_tints}
use Rattle.sheet_geometry.proofs.refill.show_tints.Given as goal

abbrev pub invariant-loop-y : goal.invariant-loop-y
invariant-loop-y l = record {
  long : length l.shown ≡ l.cut.width * l.cut.height;
  done : take (l.y * l.cut.width) l.shown ≡ shown_tints l.wide l.cut l.tints (l.y * l.cut.width);
}
