-- What becomes less at each call of serve_rooms by itself.
use Rattle.std.proofs.Common.{vec_len}
use Rattle.trap_pool.proofs.serving.+fn-serve_workspaces-join+arg3+serve_workspaces.Given as goal

abbrev pub decreases-join+arg3 : goal.decreases-join+arg3
decreases-join+arg3 g l = vec_len l.workspaces

abbrev pub decreases-serve_workspaces : goal.decreases-serve_workspaces
decreases-serve_workspaces g l = vec_len l.workspaces
