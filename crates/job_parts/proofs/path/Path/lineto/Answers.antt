-- Path::lineto: adds a vertex, in ten-thousandths of a point; after `close` it first begins a
-- subpath at the current point.
use Rattle.std.proofs.lemmas.Grind.{common_steps}
use Rattle.std.proofs.Common.{arith}
use Rattle.job_parts.proofs.Drawings.{lined_to-drawing}
use Rattle.job_parts.proofs.path.Path.lineto.Goals as goal

pub invariant_of-self-2 : goal.invariant_of-self-2
invariant_of-self-2 c = lined_to-drawing _ _ _ _ c.self.invariant.path (rw c.in-Some.is at c.self.invariant.pen) c.in_ok-pen.ensures

pub invariant_of-self : goal.invariant_of-self
invariant_of-self c = grind (arith, common_steps)
