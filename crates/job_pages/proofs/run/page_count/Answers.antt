-- page_count: how many pages a job has.
use Rattle.std.proofs.Common.{arith}
use Rattle.job_pages.proofs.Counts.{shown_few}
use Rattle.job_pages.proofs.run.page_count.Goals as goal

pub overflow_cast-result : goal.overflow_cast-result
overflow_cast-result c = omega (arith, c.len.ensures, shown_few c.args.bytes.now c.in_ok-run.run'.spans c.in_ok-run.run'.shown c.in_ok-run.ensures.0 c.in_ok-run.ensures.1)
