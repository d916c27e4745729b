-- write_report: writes the report of a sheet with these counts into the file of that name.
use Rattle.std.proofs.lemmas.Grind.{common_steps}
use Rattle.std.proofs.Common.{arith}
use Rattle.outside.proofs.Steps.{created_then_filled}
use Rattle.trap_report.specs.Report.{report_of}
use Rattle.trap_report.proofs.file.write_report.Goals as goal

pub returns : goal.returns
returns g c = created_then_filled c.args.name.now (report_of c.args.sheet.now c.args.counts.now) (g.R.Rack.state c.args.rack.now) (g.R.Rack.state c.create.new.self) (g.R.Rack.state c.fill_report.new.rack) _ c.fill_report.result c.in_ok-create.ensures c.fill_report.ensures

pub returns-in_err-create : goal.returns-in_err-create
returns-in_err-create g c = grind (arith, common_steps)
