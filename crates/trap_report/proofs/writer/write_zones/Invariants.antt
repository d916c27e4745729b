-- How far the loop of `write_zones` has come.
use Rattle.std.proofs.Common.{Ok}
use Rattle.trap_report.specs.Report.{zone_lines}
use Rattle.trap_report.proofs.writer.write_zones.Given as goal

abbrev pub invariant-loop-zone : goal.invariant-loop-zone
invariant-loop-zone g l = record {
  added : g.S.Sink.adds (zone_lines l.counts l.zone) l.fn.sink l.sink (Ok tt);
  is_open : g.S.Sink.is_open l.sink;
}
