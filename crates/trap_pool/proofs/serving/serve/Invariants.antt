-- The loops of serve: takes lines until it finds none, or its room is full, and keeps what it makes
-- of each.
use Rattle.std.proofs.Common.{◌≡◌, false, [], None, All}
use Rattle.crossbeam_queue.specs.Passes.{view, IsPassOf}
use Rattle.trap_pool.specs.Rule.{pass_view}
use Rattle.trap_pool.specs.Serving.{kept_lines}
use Rattle.trap_pool.proofs.serving.serve.Given as goal

abbrev pub invariant-loop : goal.invariant-loop
invariant-loop g l = IsPassOf l.queue l.pass × (view l.pass ≡ pass_view 1 false [] (kept_lines l.kept.items)) × All (λ k. g.W.LineWork.makes l.work k.line k.made) l.kept.items × (l.end ≡ None)
