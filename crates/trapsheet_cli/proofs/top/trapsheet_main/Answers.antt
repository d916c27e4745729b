-- trapsheet_main: traps a sheet of any size, and answers the status that the program ends with.
use Rattle.std.proofs.Common.{map, string_bytes, Global}
use Rattle.sheet_files.specs.Inputs.{stored_by}
use Rattle.trapsheet_cli.specs.Files.{sources_of}
use Rattle.trapsheet_cli.proofs.ClauseLemmas.{completeness, fault_line, leaves_files, read_fault, refused_input, reopened, success, usage, write_fault}
use Rattle.trapsheet_cli.proofs.LocalityLemmas.{changes_near_edges}
use Rattle.trapsheet_cli.proofs.top.trapsheet_main.Goals as goal

pub returns-clause-success : goal.returns-clause-success
returns-clause-success g c = success (map (string_bytes {Z = Global}) c.args.words.now) (map g.T.Tray.state c.args.trays.now) (map g.T.Tray.state c.trapsheet_within.new.trays) (map g.R.Rack.state c.args.racks.now) (map g.R.Rack.state c.trapsheet_within.new.racks) c.trapsheet_within.result c.trapsheet_within.ensures

pub returns-clause-usage : goal.returns-clause-usage
returns-clause-usage g c = usage (map (string_bytes {Z = Global}) c.args.words.now) (map g.T.Tray.state c.args.trays.now) (map g.T.Tray.state c.trapsheet_within.new.trays) (map g.R.Rack.state c.args.racks.now) (map g.R.Rack.state c.trapsheet_within.new.racks) c.trapsheet_within.result c.trapsheet_within.ensures

pub returns-clause-refused_input : goal.returns-clause-refused_input
returns-clause-refused_input g c = refused_input (map (string_bytes {Z = Global}) c.args.words.now) (map g.T.Tray.state c.args.trays.now) (map g.T.Tray.state c.trapsheet_within.new.trays) (map g.R.Rack.state c.args.racks.now) (map g.R.Rack.state c.trapsheet_within.new.racks) c.trapsheet_within.result c.one_sheet_verdict.ensures c.trapsheet_within.ensures

pub returns-clause-read_fault : goal.returns-clause-read_fault
returns-clause-read_fault g c = read_fault (map (string_bytes {Z = Global}) c.args.words.now) (map g.T.Tray.state c.args.trays.now) (map g.T.Tray.state c.trapsheet_within.new.trays) (map g.R.Rack.state c.args.racks.now) (map g.R.Rack.state c.trapsheet_within.new.racks) c.trapsheet_within.result c.trapsheet_within.ensures

pub returns-clause-write_fault : goal.returns-clause-write_fault
returns-clause-write_fault g c = write_fault (map (string_bytes {Z = Global}) c.args.words.now) (map g.T.Tray.state c.args.trays.now) (map g.T.Tray.state c.trapsheet_within.new.trays) (map g.R.Rack.state c.args.racks.now) (map g.R.Rack.state c.trapsheet_within.new.racks) c.trapsheet_within.result c.trapsheet_within.ensures

pub returns-clause-memory : goal.returns-clause-memory
returns-clause-memory g c = leaves_files (map (string_bytes {Z = Global}) c.args.words.now) (map g.T.Tray.state c.args.trays.now) (map g.T.Tray.state c.trapsheet_within.new.trays) (map g.R.Rack.state c.args.racks.now) (map g.R.Rack.state c.trapsheet_within.new.racks) c.trapsheet_within.result c.trapsheet_within.ensures

pub returns-clause-fault_line : goal.returns-clause-fault_line
returns-clause-fault_line g c = fault_line (map (string_bytes {Z = Global}) c.args.words.now) (map g.T.Tray.state c.args.trays.now) (map g.T.Tray.state c.trapsheet_within.new.trays) (map g.R.Rack.state c.args.racks.now) (map g.R.Rack.state c.trapsheet_within.new.racks) c.trapsheet_within.result c.trapsheet_within.ensures

pub returns-clause-reopened : goal.returns-clause-reopened
returns-clause-reopened g c = reopened (map (string_bytes {Z = Global}) c.args.words.now) (map g.T.Tray.state c.args.trays.now) (map g.T.Tray.state c.trapsheet_within.new.trays) (map g.R.Rack.state c.args.racks.now) (map g.R.Rack.state c.trapsheet_within.new.racks) c.trapsheet_within.result c.trapsheet_within.ensures

pub returns-clause-completeness : goal.returns-clause-completeness
returns-clause-completeness g c = completeness (map (string_bytes {Z = Global}) c.args.words.now) (map g.T.Tray.state c.args.trays.now) (map g.T.Tray.state c.trapsheet_within.new.trays) (map g.R.Rack.state c.args.racks.now) (map g.R.Rack.state c.trapsheet_within.new.racks) c.trapsheet_within.result c.one_sheet_verdict.ensures c.trapsheet_within.ensures

pub returns-clause-locality : goal.returns-clause-locality
returns-clause-locality g c order job read sheet means tells inputs is = changes_near_edges (stored_by (map g.T.Tray.state c.args.trays.now) (sources_of order)) (sources_of order).names job read sheet inputs is
