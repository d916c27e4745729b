use Rattle.keepaway.specs.Rows.{HasRows}
use Rattle.underprint.specs.Underprint.{kept}
use Rattle.underprint.proofs.plate.draw_plate.Given as goal

abbrev pub invariant-loop-y : goal.invariant-loop-y
invariant-loop-y l = HasRows l.page (kept l.page l.whites l.c) l.y l.out
