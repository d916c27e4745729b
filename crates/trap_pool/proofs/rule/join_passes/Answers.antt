-- join_passes: joins the other pass into this one.
use Rattle.trap_pool.proofs.Keeps.{merges}
use Rattle.trap_pool.proofs.rule.join_passes.Goals as goal

pub absorb-requires-clause-rule : goal.absorb-requires-clause-rule
absorb-requires-clause-rule g = merges _ _ _ _
