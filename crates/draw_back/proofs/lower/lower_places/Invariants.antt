use Rattle.draw_back.specs.Lowers.{Lowers, IsOfPlace}
use Rattle.draw_back.proofs.lower.lower_places.Given as goal

abbrev pub invariant-loop-i : goal.invariant-loop-i
invariant-loop-i l = Lowers l.initial.best l.best 0 l.i (IsOfPlace l.tints l.marks l.fn.window.from l.fn.window.halo)
