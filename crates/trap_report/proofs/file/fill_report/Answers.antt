-- fill_report: writes all of the open file, and finishes it.
use Rattle.outside.proofs.Steps.{written_then_finished}
use Rattle.trap_report.specs.Report.{report_of}
use Rattle.trap_report.proofs.file.fill_report.Goals as goal

pub returns : goal.returns
returns g c = written_then_finished (report_of c.args.sheet.now c.args.counts.now) (g.R.Rack.state c.args.rack.now) (g.R.Rack.state c.write_all.new.sink) (g.R.Rack.state c.finish.new.self) _ c.finish.result c.in_ok-write_all.ensures.added c.finish.ensures
