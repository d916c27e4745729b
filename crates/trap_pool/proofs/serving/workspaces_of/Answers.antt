-- rooms_of: so many rooms, each with so many places.
use Rattle.std.proofs.Common.{rules, refl}
use Rattle.trap_pool.proofs.Workspaces.{made_more}
use Rattle.trap_pool.proofs.serving.workspaces_of.Goals as goal

pub loop-preserved : goal.loop-preserved
loop-preserved g c = (search rules, made_more _ _ _ _ c.in_ok-push.ensures.items c.loop.invariant.1 (search rules) refl)
