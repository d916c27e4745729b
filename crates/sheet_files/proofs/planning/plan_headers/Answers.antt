-- plan_headers: the sheet that a job and plates of these headers make, but for its tints, and how
-- it is to be trapped within a budget for each window.
use Rattle.sheet_files.proofs.PlanLemmas.{can_plan, plans_with, plans_without}
use Rattle.sheet_files.proofs.planning.plan_headers.Goals as goal

pub returns-in-Some : goal.returns-in-Some
returns-in-Some c = plans_without c.args.budget.now c.args.job c.args.headers.now c.args.names.now c.in-Some.plate c.in-Some.ensures

pub plan_planes-requires-clause-planes : goal.plan_planes-requires-clause-planes
plan_planes-requires-clause-planes c = can_plan c.args.headers.now c.in-Ok.planes c.args.names.now c.requires.headers c.in-Ok.ensures

pub returns-in-Ok : goal.returns-in-Ok
returns-in-Ok c = plans_with c.args.budget.now c.args.job c.args.headers.now c.in-Ok.planes c.args.names.now c.plan_planes.result c.requires.job c.requires.headers c.in-None.ensures c.in-Ok.ensures c.plan_planes.ensures
