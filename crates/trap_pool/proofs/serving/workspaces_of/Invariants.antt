-- The loops of rooms_of: so many rooms, each with so many places.
use Rattle.std.proofs.Common.{◌≡◌, ◌≤◌, vec_len, vec_capacity, All}
use Rattle.trap_pool.specs.Serving.{IsUnused}
use Rattle.trap_pool.proofs.serving.workspaces_of.Given as goal

abbrev pub invariant-loop : goal.invariant-loop
invariant-loop g l = (vec_len l.workspaces ≡ l.counter) × All (λ workspace. (l.places ≤ vec_capacity workspace.kept) × IsUnused workspace) l.workspaces.items
