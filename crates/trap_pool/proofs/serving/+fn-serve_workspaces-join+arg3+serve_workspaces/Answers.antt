-- serve_rooms: a worker for each room, on a thread of its own, serves the lines of the queue.
use Rattle.std.proofs.lemmas.Grind.{common_steps}
use Rattle.std.proofs.Common.{arith, rules}
use Rattle.trap_pool.proofs.Workspaces.{drained, served_more, served_with}
use Rattle.trap_pool.proofs.serving.+fn-serve_workspaces-join+arg3+serve_workspaces.Goals as goal

pub returns-clause-taken : goal.returns-clause-taken
returns-clause-taken g t c = drained _ _ _ _ _ _ _ _ (search rules) c.split_pass-worker.ensures.left c.join-worker.ensures.second.1.1.0 c.join-worker.ensures.first.1 c.join_passes.ensures.both
    (served_with _ _ _ c.in-Ok.ensures.items)

pub returns-clause-served : goal.returns-clause-served
returns-clause-served g t c = served_more _ _ _ c.in-Ok.ensures.items (search rules) (search rules)

pub fn::serve_workspaces::join+arg3+FnOnce::call_once-join+arg3-requires : goal.fn::serve_workspaces::join+arg3+FnOnce::call_once-join+arg3-requires
fn::serve_workspaces::join+arg3+FnOnce::call_once-join+arg3-requires c = grind (arith, common_steps)

pub join-worker-requires-after_bounds : goal.join-worker-requires-after_bounds
join-worker-requires-after_bounds c = grind (arith, common_steps)

pub returns-in_default-clause-served : goal.returns-in_default-clause-served
returns-in_default-clause-served c = grind (arith, common_steps)

pub returns-in_default-clause-taken : goal.returns-in_default-clause-taken
returns-in_default-clause-taken c = grind (arith, common_steps)

pub join+arg3-returns : goal.join+arg3-returns
join+arg3-returns c = grind (arith, common_steps)

pub join+arg3-serve_workspaces-requires : goal.join+arg3-serve_workspaces-requires
join+arg3-serve_workspaces-requires c = grind (arith, common_steps)

pub returns-clause-queue : goal.returns-clause-queue
returns-clause-queue c = grind (arith, common_steps)

pub unreachable-requires : goal.unreachable-requires
unreachable-requires c = grind (arith, common_steps)

pub returns-in_default-clause-workspaces : goal.returns-in_default-clause-workspaces
returns-in_default-clause-workspaces c = grind (arith, common_steps)

pub split_pass-worker-requires-clause-parts : goal.split_pass-worker-requires-clause-parts
split_pass-worker-requires-clause-parts c = grind (arith, common_steps)

pub returns-in_default-clause-made : goal.returns-in_default-clause-made
returns-in_default-clause-made c = grind (arith, common_steps)

pub fn::serve_workspaces::join+arg3+FnOnce::call_once-returns : goal.fn::serve_workspaces::join+arg3+FnOnce::call_once-returns
fn::serve_workspaces::join+arg3+FnOnce::call_once-returns c = grind (arith, common_steps)

pub unreachable-unreachable : goal.unreachable-unreachable
unreachable-unreachable c = grind (arith, common_steps)

pub returns-clause-workspaces : goal.returns-clause-workspaces
returns-clause-workspaces c = grind (arith, common_steps)
