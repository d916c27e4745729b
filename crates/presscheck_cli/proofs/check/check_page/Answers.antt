-- check_page: reads the page, and gives the text that tells of it.
use Rattle.presscheck_cli.specs.Stored.{check_in}
use Rattle.presscheck_cli.specs.Words.{sources_of}
use Rattle.presscheck_cli.proofs.EndLemmas.{read_and_made, refused_first}
use Rattle.presscheck_cli.proofs.check.check_page.Goals as goal

pub returns-in-Ok : goal.returns-in-Ok
returns-in-Ok g c = read_and_made (sources_of (check_in c.args.check.now)) c.args.check.now.radius (g.T.Tray.state c.args.tray.now) (g.T.Tray.state c.read_page.new.tray) c.in-Ok.page c.text_or_error.result c.in-Ok.ensures c.text_or_error.ensures.valid c.text_or_error.ensures.text

pub returns-in-Err : goal.returns-in-Err
returns-in-Err g c = refused_first (sources_of (check_in c.args.check.now)) c.args.check.now.radius (g.T.Tray.state c.args.tray.now) (g.T.Tray.state c.read_page.new.tray) c.in-Err.error c.in-Err.ensures
