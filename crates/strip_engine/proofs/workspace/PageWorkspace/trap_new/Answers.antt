-- PageRoom::trap_new: traps a page of which nothing is trapped yet, as a room that was just made
-- for it has it.
use Rattle.std.proofs.Common.{rules}
use Rattle.strip_engine.proofs.WorkspaceLemmas.{rows_taken}
use Rattle.strip_engine.proofs.workspace.PageWorkspace.trap_new.Goals as goal

pub trap_rows-requires-clause-outcome : goal.trap_rows-requires-clause-outcome
trap_rows-requires-clause-outcome c = rows_taken c.args.page.now 0 _ c.args.self.now.outcome c.requires.rows

pub returns-clause-rows : goal.returns-clause-rows
returns-clause-rows c = search rules
