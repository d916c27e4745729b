-- What `run` has to show.
use Rattle.std.proofs.Common.{sym}
use Rattle.traprun_cli.specs.Endings.EndsWords.{run}
use Rattle.traprun_cli.specs.Opened.{order_in}
use Rattle.traprun_cli.proofs.top.run.Goals as goal

pub returns-in-Some : goal.returns-in-Some
returns-in-Some g c = run (order_in c.in-Some.order) (sym c.in-Some.ensures.meaning) c.run_order.ensures
