-- Path::moveto: begins a subpath with one vertex, in ten-thousandths of a point.
use Rattle.job_parts.proofs.Drawings.{begun_at-drawing}
use Rattle.job_parts.proofs.path.Path.moveto.Goals as goal

pub invariant_of-self-2 : goal.invariant_of-self-2
invariant_of-self-2 c = begun_at-drawing _ _ _ c.self.invariant.path c.in_ok-pen.ensures
