-- report_counts: writes the report of a sheet with these counts by the first rack, where all of the
-- sheet but its tints is known.
use Rattle.std.proofs.Common.{ℕ, ◌<◌, List, length, map, sym, subst, arith}
use Rattle.outside.specs.Rack.{RackState}
use Rattle.outside.specs.Writing.{WritesFile}
use Rattle.trap_report.specs.Report.{report_of}
use Rattle.std.proofs.lemmas.Grind.{common_steps}
use Rattle.sheet_files.specs.Reporting.{sheet_report}
use Rattle.plate_rows.specs.Racks.{no_rack, rack_at}
use Rattle.sheet_files.proofs.RackLemmas.{state_before, state_here}
use Rattle.sheet_files.proofs.ReportingLemmas.{report_is}
use Rattle.sheet_files.proofs.reporting.report_counts.Goals as goal

pub returns-clause-here : goal.returns-clause-here
returns-clause-here g c sheet same counted =
    let racks = c.args.racks.now in
    let old = c.index-racks-0.result in
    let new = c.write_report.new.rack in
    let within : 0 < length racks = (let some = c.requires.racks in omega (arith, some)) in
    let before = state_before g.R.Rack.state no_rack racks 0 old new within in
    let after = state_here g.R.Rack.state no_rack racks 0 old new within in
    let is = report_is c.args.outline.now c.args.counts c.counts_in_report-reported.result c.counts_in_report-reported.ensures c.report_is_outline.ensures sheet same counted in
    let text = report_of c.args.outline.now c.counts_in_report-reported.result in
    subst (λ (r : RackState). WritesFile c.args.name.now (sheet_report sheet) (rack_at (map g.R.Rack.state racks) 0) r c.write_report.result) (sym after)
    (subst (λ (t : List ℕ). WritesFile c.args.name.now t (rack_at (map g.R.Rack.state racks) 0) (g.R.Rack.state new) c.write_report.result) is
    (subst (λ (r : RackState). WritesFile c.args.name.now text r (g.R.Rack.state new) c.write_report.result) (sym before) c.write_report.ensures))

pub returns-clause-others : goal.returns-clause-others
returns-clause-others g c = grind (arith, common_steps)

pub write_report-requires-clause-counts : goal.write_report-requires-clause-counts
write_report-requires-clause-counts g c = grind (arith, common_steps)
