-- What `run` has to show.
use Rattle.std.proofs.Common.{sym}
use Rattle.presscheck_cli.specs.Endings.Ends.{check}
use Rattle.presscheck_cli.specs.Stored.{check_in}
use Rattle.presscheck_cli.proofs.top.run.Goals as goal

pub returns-in-Some : goal.returns-in-Some
returns-in-Some g c = check (check_in c.in-Some.check) (sym c.in-Some.ensures.meaning) c.run_check.ensures
