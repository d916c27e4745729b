-- trap_planned_in: traps the window of a strip by the plan of its rows.
use Rattle.std.proofs.lemmas.Grind.{common_steps}
use Rattle.std.proofs.Common.{arith}
use Rattle.sheet_engine.proofs.workspace.trap_planned_in.Goals as goal

pub trap_window_in-requires-clause-workspace : goal.trap_window_in-requires-clause-workspace
trap_window_in-requires-clause-workspace c = c.requires.workspace

pub returns-clause-trapped : goal.returns-clause-trapped
returns-clause-trapped c = c.trap_window_in.ensures.trapped

pub trap_window_in-requires-clause-column : goal.trap_window_in-requires-clause-column
trap_window_in-requires-clause-column c = grind (arith, common_steps)

pub trap_window_in-requires-clause-row : goal.trap_window_in-requires-clause-row
trap_window_in-requires-clause-row c = grind (arith, common_steps)
