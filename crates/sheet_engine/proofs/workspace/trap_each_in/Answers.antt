-- What `trap_each_in` has to show.
use denote.Param.Send.{sendable}
use Rattle.std.proofs.Common.{arith}
use Rattle.std.proofs.lemmas.Grind.{common_steps}
use Rattle.sheet_engine.proofs.workspace.RowPlan.TheSendSync as plan
use Rattle.sheet_geometry.proofs.window_sheet.Sheet.TheSendSync as sheet
use Rattle.sheet_engine.proofs.workspace.trap_each_in.Goals as goal

pub for_each_mut-requires-sync-F : goal.for_each_mut-requires-sync-F
for_each_mut-requires-sync-F g c = search (sendable, sheet.the_sync, plan.the_sync) depth 14

pub returns-clause-trapped : goal.returns-clause-trapped
returns-clause-trapped g c = grind (arith, common_steps)

pub returns-clause-columns : goal.returns-clause-columns
returns-clause-columns g c = grind (arith, common_steps)
