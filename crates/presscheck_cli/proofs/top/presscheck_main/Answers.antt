-- presscheck_main: tells how many samples of a page misregister could leave bare, before it is
-- trapped and after, and answers the status that the program ends with.
use Rattle.std.proofs.Common.{map, string_bytes, Global}
use Rattle.presscheck_cli.proofs.ClauseLemmas.{success, usage_ends, refused_input, read_fault, tell_fault, keeps_files, fault_line, completeness}
use Rattle.presscheck_cli.proofs.top.presscheck_main.Goals as goal

pub returns-clause-success : goal.returns-clause-success
returns-clause-success g c = success (map (string_bytes {Z = Global}) c.args.words.now) (g.T.Tray.state c.args.tray.now) (g.T.Tray.state c.run.new.tray) (g.R.Rack.state c.args.rack.now) (g.R.Rack.state c.run.new.rack) c.run.result c.run.ensures

pub returns-clause-usage : goal.returns-clause-usage
returns-clause-usage g c = usage_ends (map (string_bytes {Z = Global}) c.args.words.now) (g.T.Tray.state c.args.tray.now) (g.T.Tray.state c.run.new.tray) (g.R.Rack.state c.args.rack.now) (g.R.Rack.state c.run.new.rack) c.run.result c.run.ensures

pub returns-clause-refused_input : goal.returns-clause-refused_input
returns-clause-refused_input g c = refused_input (map (string_bytes {Z = Global}) c.args.words.now) (g.T.Tray.state c.args.tray.now) (g.T.Tray.state c.run.new.tray) (g.R.Rack.state c.args.rack.now) (g.R.Rack.state c.run.new.rack) c.run.result (record { not_both = c.not_both.ensures; one_plate = c.one_plate.ensures; one_fault = c.one_fault.ensures }) c.run.ensures

pub returns-clause-read_fault : goal.returns-clause-read_fault
returns-clause-read_fault g c = read_fault (map (string_bytes {Z = Global}) c.args.words.now) (g.T.Tray.state c.args.tray.now) (g.T.Tray.state c.run.new.tray) (g.R.Rack.state c.args.rack.now) (g.R.Rack.state c.run.new.rack) c.run.result c.run.ensures

pub returns-clause-tell_fault : goal.returns-clause-tell_fault
returns-clause-tell_fault g c = tell_fault (map (string_bytes {Z = Global}) c.args.words.now) (g.T.Tray.state c.args.tray.now) (g.T.Tray.state c.run.new.tray) (g.R.Rack.state c.args.rack.now) (g.R.Rack.state c.run.new.rack) c.run.result c.run.ensures

pub returns-clause-no_file : goal.returns-clause-no_file
returns-clause-no_file g c = keeps_files (map (string_bytes {Z = Global}) c.args.words.now) (g.T.Tray.state c.args.tray.now) (g.T.Tray.state c.run.new.tray) (g.R.Rack.state c.args.rack.now) (g.R.Rack.state c.run.new.rack) c.run.result c.run.ensures

pub returns-clause-fault_line : goal.returns-clause-fault_line
returns-clause-fault_line g c = fault_line (map (string_bytes {Z = Global}) c.args.words.now) (g.T.Tray.state c.args.tray.now) (g.T.Tray.state c.run.new.tray) (g.R.Rack.state c.args.rack.now) (g.R.Rack.state c.run.new.rack) c.run.result c.run.ensures

pub returns-clause-completeness : goal.returns-clause-completeness
returns-clause-completeness g c = completeness (map (string_bytes {Z = Global}) c.args.words.now) (g.T.Tray.state c.args.tray.now) (g.T.Tray.state c.run.new.tray) (g.R.Rack.state c.args.rack.now) (g.R.Rack.state c.run.new.rack) c.run.result (record { not_both = c.not_both.ensures; one_plate = c.one_plate.ensures; one_fault = c.one_fault.ensures }) c.run.ensures
