use Rattle.keepaway.specs.Rows.{HasRows}
use Rattle.underprint.specs.Lists.{mark}
use Rattle.underprint.proofs.cover.fill_marks.Given as goal

abbrev pub invariant-loop-y : goal.invariant-loop-y
invariant-loop-y l = HasRows l.page (mark l.page l.whites) l.y l.marks
