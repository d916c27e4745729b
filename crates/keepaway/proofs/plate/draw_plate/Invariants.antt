use Rattle.keepaway.specs.Keepaway.{kept}
use Rattle.keepaway.specs.Rows.{HasRows}
use Rattle.keepaway.proofs.plate.draw_plate.Given as goal

abbrev pub invariant-loop-y : goal.invariant-loop-y
invariant-loop-y l = HasRows l.page (kept l.page l.rich l.c) l.y l.out
