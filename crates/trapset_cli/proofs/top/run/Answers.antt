-- What `run` has to show.
use Rattle.std.proofs.Common.{sym}
use Rattle.trapset_cli.specs.Endings.Ends.{command}
use Rattle.trapset_cli.specs.Stored.{command_in}
use Rattle.trapset_cli.proofs.top.run.Goals as goal

pub returns-in-Some : goal.returns-in-Some
returns-in-Some g c = command (command_in c.in-Some.command) (sym c.in-Some.ensures.meaning) c.run_command.ensures
