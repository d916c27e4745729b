-- ManyPages::count: how many pages there are.
use Rattle.std.proofs.Common.{arith}
use Rattle.job_pages.proofs.Counts.{shown_few}
use Rattle.job_pages.proofs.many.ManyPages.count.Goals as goal

pub overflow_cast-result : goal.overflow_cast-result
overflow_cast-result c = omega (arith, c.len.ensures, shown_few c.self.inside.bytes c.self.inside.run.spans c.self.inside.run.shown c.self.invariant.0 c.self.invariant.1)
