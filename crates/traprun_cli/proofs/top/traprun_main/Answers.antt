-- traprun_main: traps each page of a job of many pages, and answers the status that the program
-- ends with.
use Rattle.std.proofs.Common.{map, string_bytes, Global}
use Rattle.traprun_cli.proofs.ClauseLemmas.{success, usage_ends, refused_input, read_fault, write_fault, leaves_pages, fault_line, completeness}
use Rattle.traprun_cli.proofs.top.traprun_main.Goals as goal

pub returns-clause-success : goal.returns-clause-success
returns-clause-success g c = success (map (string_bytes {Z = Global}) c.args.words.now) (g.T.Tray.state c.args.tray.now) (g.T.Tray.state c.run.new.tray) (g.R.Rack.state c.args.rack.now) (g.R.Rack.state c.run.new.rack) c.run.result c.run.ensures

pub returns-clause-usage : goal.returns-clause-usage
returns-clause-usage g c = usage_ends (map (string_bytes {Z = Global}) c.args.words.now) (g.T.Tray.state c.args.tray.now) (g.T.Tray.state c.run.new.tray) (g.R.Rack.state c.args.rack.now) (g.R.Rack.state c.run.new.rack) c.run.result c.run.ensures

pub returns-clause-refused_input : goal.returns-clause-refused_input
returns-clause-refused_input g c = refused_input (map (string_bytes {Z = Global}) c.args.words.now) (g.T.Tray.state c.args.tray.now) (g.T.Tray.state c.run.new.tray) (g.R.Rack.state c.args.rack.now) (g.R.Rack.state c.run.new.rack) c.run.result c.run.ensures

pub returns-clause-read_fault : goal.returns-clause-read_fault
returns-clause-read_fault g c = read_fault (map (string_bytes {Z = Global}) c.args.words.now) (g.T.Tray.state c.args.tray.now) (g.T.Tray.state c.run.new.tray) (g.R.Rack.state c.args.rack.now) (g.R.Rack.state c.run.new.rack) c.run.result c.run.ensures

pub returns-clause-write_fault : goal.returns-clause-write_fault
returns-clause-write_fault g c = write_fault (map (string_bytes {Z = Global}) c.args.words.now) (g.T.Tray.state c.args.tray.now) (g.T.Tray.state c.run.new.tray) (g.R.Rack.state c.args.rack.now) (g.R.Rack.state c.run.new.rack) c.run.result c.run.ensures

pub returns-clause-memory : goal.returns-clause-memory
returns-clause-memory g c = leaves_pages (map (string_bytes {Z = Global}) c.args.words.now) (g.T.Tray.state c.args.tray.now) (g.T.Tray.state c.run.new.tray) (g.R.Rack.state c.args.rack.now) (g.R.Rack.state c.run.new.rack) c.run.result c.run.ensures

pub returns-clause-fault_line : goal.returns-clause-fault_line
returns-clause-fault_line g c = fault_line (map (string_bytes {Z = Global}) c.args.words.now) (g.T.Tray.state c.args.tray.now) (g.T.Tray.state c.run.new.tray) (g.R.Rack.state c.args.rack.now) (g.R.Rack.state c.run.new.rack) c.run.result c.run.ensures

pub returns-clause-completeness : goal.returns-clause-completeness
returns-clause-completeness g c = completeness (map (string_bytes {Z = Global}) c.args.words.now) (g.T.Tray.state c.args.tray.now) (g.T.Tray.state c.run.new.tray) (g.R.Rack.state c.args.rack.now) (g.R.Rack.state c.run.new.rack) c.run.result c.run.ensures
