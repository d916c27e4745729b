-- carry_out: reads the page, traps it, and only then writes.
use Rattle.std.proofs.lemmas.Result.{err_from_is_err_and}
use Rattle.std.proofs.lemmas.Grind.{common_steps}
use Rattle.std.proofs.Common.{arith}
use Rattle.page_files.proofs.GatherLemmas.{gathered}
use Rattle.trap_cli.specs.Stored.{page_in}
use Rattle.trap_cli.specs.Commands.{sources_of, targets_of}
use Rattle.trap_cli.proofs.EndLemmas.{read_and_put, refused_first}
use Rattle.trap_cli.proofs.page.carry_out.Goals as goal

pub returns : goal.returns
returns g c = read_and_put (page_in c.args.command.now).band (sources_of (page_in c.args.command.now)) (targets_of (page_in c.args.command.now)) c.in_ok-page.page (g.T.Tray.state c.args.tray.now) (g.T.Tray.state c.read_page.new.tray) (g.R.Rack.state c.args.rack.now) (g.R.Rack.state c.write_out.new.rack) (gathered (sources_of (page_in c.args.command.now)) (g.T.Tray.state c.args.tray.now) (g.T.Tray.state c.read_page.new.tray) c.in_ok-page.page c.in_ok-page.ensures) c.write_out.result c.write_out.ensures

pub returns-in_err-page : goal.returns-in_err-page
returns-in_err-page g c =
    let p = err_from_is_err_and c.from_residual.result c.from_residual.ensures.1 in
    rw (p.1, p.2) (refused_first (page_in c.args.command.now).band (sources_of (page_in c.args.command.now)) (targets_of (page_in c.args.command.now)) (g.T.Tray.state c.args.tray.now) (g.T.Tray.state c.read_page.new.tray) (g.R.Rack.state c.args.rack.now) c.in_err-page.field-0.0 c.in_err-page.ensures)

pub write_out-requires-clause-count : goal.write_out-requires-clause-count
write_out-requires-clause-count g c = grind (arith, common_steps)
