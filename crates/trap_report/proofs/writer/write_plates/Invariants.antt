-- How far the loop of `write_plates` has come.
use Rattle.std.proofs.Common.{◌≡◌, Ok}
use Rattle.page_model.specs.Page.{plates}
use Rattle.trap_report.specs.Report.{plate_lines}
use Rattle.trap_report.proofs.writer.write_plates.Given as goal

abbrev pub invariant-loop-plate : goal.invariant-loop-plate
invariant-loop-plate g l = record {
  end : l.plate-end ≡ plates (g.P.Reported.parts l.page);
  added : g.S.Sink.adds (plate_lines (g.P.Reported.parts l.page) l.counts l.plate) l.fn.sink l.sink (Ok tt);
  is_open : g.S.Sink.is_open l.sink;
}
