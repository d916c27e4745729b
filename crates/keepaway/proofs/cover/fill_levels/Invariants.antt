use Rattle.keepaway.specs.Keepaway.{level}
use Rattle.keepaway.specs.Rows.{HasRows}
use Rattle.keepaway.proofs.cover.fill_levels.Given as goal

abbrev pub invariant-loop-y : goal.invariant-loop-y
invariant-loop-y l = HasRows l.page (level l.page l.limit) l.y l.levels
