-- trap_main: carries out the command that the words mean, and answers the status that the program
-- ends with, and at status 0 the receipt of the work.
use Rattle.std.proofs.Common.{map, string_bytes, Global}
use Rattle.trap_cli.specs.Commands.{sources_of}
use Rattle.trap_cli.proofs.ClauseLemmas.{success, refused_input, leaves_files, read_fault, write_fault, fault_line, sample_page, completeness}
use Rattle.trap_cli.proofs.LocalityLemmas.{changes_near_edges}
use Rattle.trap_cli.proofs.top.trap_main.Goals as goal

pub returns-clause-success : goal.returns-clause-success
returns-clause-success g c = success (map (string_bytes {Z = Global}) c.args.words.now) (g.T.Tray.state c.args.tray.now) (g.T.Tray.state c.run.new.tray) (g.R.Rack.state c.args.rack.now) (g.R.Rack.state c.run.new.rack) c.run.result.status c.run.result.receipt c.run.ensures

pub returns-clause-memory : goal.returns-clause-memory
returns-clause-memory g c = leaves_files (map (string_bytes {Z = Global}) c.args.words.now) (g.T.Tray.state c.args.tray.now) (g.T.Tray.state c.run.new.tray) (g.R.Rack.state c.args.rack.now) (g.R.Rack.state c.run.new.rack) c.run.result.status c.run.result.receipt c.run.ensures

pub returns-clause-refused_input : goal.returns-clause-refused_input
returns-clause-refused_input g c = refused_input (map (string_bytes {Z = Global}) c.args.words.now) (g.T.Tray.state c.args.tray.now) (g.T.Tray.state c.run.new.tray) (g.R.Rack.state c.args.rack.now) (g.R.Rack.state c.run.new.rack) c.run.result.status c.run.result.receipt (record { not_both = c.not_both.ensures; one_plate = c.one_plate.ensures; one_fault = c.one_fault.ensures }) c.run.ensures

pub returns-clause-read_fault : goal.returns-clause-read_fault
returns-clause-read_fault g c = read_fault (map (string_bytes {Z = Global}) c.args.words.now) (g.T.Tray.state c.args.tray.now) (g.T.Tray.state c.run.new.tray) (g.R.Rack.state c.args.rack.now) (g.R.Rack.state c.run.new.rack) c.run.result.status c.run.result.receipt c.run.ensures

pub returns-clause-write_fault : goal.returns-clause-write_fault
returns-clause-write_fault g c = write_fault (map (string_bytes {Z = Global}) c.args.words.now) (g.T.Tray.state c.args.tray.now) (g.T.Tray.state c.run.new.tray) (g.R.Rack.state c.args.rack.now) (g.R.Rack.state c.run.new.rack) c.run.result.status c.run.result.receipt c.run.ensures

pub returns-clause-fault_line : goal.returns-clause-fault_line
returns-clause-fault_line g c = fault_line (map (string_bytes {Z = Global}) c.args.words.now) (g.T.Tray.state c.args.tray.now) (g.T.Tray.state c.run.new.tray) (g.R.Rack.state c.args.rack.now) (g.R.Rack.state c.run.new.rack) c.run.result.status c.run.result.receipt c.run.ensures

pub returns-clause-sample : goal.returns-clause-sample
returns-clause-sample g c = sample_page (map (string_bytes {Z = Global}) c.args.words.now) (g.T.Tray.state c.args.tray.now) (g.T.Tray.state c.run.new.tray) (g.R.Rack.state c.args.rack.now) (g.R.Rack.state c.run.new.rack) c.run.result.status c.run.result.receipt c.run.ensures

pub returns-clause-completeness : goal.returns-clause-completeness
returns-clause-completeness g c = completeness (map (string_bytes {Z = Global}) c.args.words.now) (g.T.Tray.state c.args.tray.now) (g.T.Tray.state c.run.new.tray) (g.R.Rack.state c.args.rack.now) (g.R.Rack.state c.run.new.rack) c.run.result.status c.run.result.receipt (record { not_both = c.not_both.ensures; one_plate = c.one_plate.ensures; one_fault = c.one_fault.ensures }) c.run.ensures

pub returns-clause-locality : goal.returns-clause-locality
returns-clause-locality g c page job read made means tells inputs is = changes_near_edges (g.T.Tray.state c.args.tray.now).file (sources_of page) job read made inputs is
