use Rattle.keepaway.specs.Rows.{HasRows, mark}
use Rattle.keepaway.proofs.cover.fill_marks.Given as goal

abbrev pub invariant-loop-y : goal.invariant-loop-y
invariant-loop-y l = HasRows l.page (mark l.page l.limit) l.y l.marks
