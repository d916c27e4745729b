-- What `run` has to show.
use Rattle.std.proofs.Common.{sym}
use Rattle.trapkeep_cli.specs.Endings.Ends.{command}
use Rattle.keep_words.specs.Stored.{keep_in}
use Rattle.trapkeep_cli.proofs.top.run.Goals as goal

pub returns-in-Some : goal.returns-in-Some
returns-in-Some g c = command (keep_in c.in-Some.command) (sym c.in-Some.ensures.meaning) c.run_command.ensures
