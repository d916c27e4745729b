-- trapsheet_within: as `trapsheet_main`, with windows of at most so many rows and samples.
use Rattle.std.proofs.Common.{sym}
use Rattle.trapsheet_cli.specs.Endings.EndsWords.{sheet}
use Rattle.trapsheet_cli.specs.Stored.{order_in}
use Rattle.trapsheet_cli.proofs.top.trapsheet_within.Goals as goal

pub returns-in-Some : goal.returns-in-Some
returns-in-Some g c = sheet (order_in c.in-Some.order) (sym c.in-Some.ensures.meaning) c.run_order.ensures
