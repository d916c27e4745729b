-- trappool_main: traps the pages of a list of jobs, and answers the status that the program ends
-- with.
use Rattle.std.proofs.Common.{map, string_bytes, Global}
use Rattle.trappool_cli.proofs.Clauses.{answers_lines, leaves_files, refused_list, statuses, success, untold, usage_ends}
use Rattle.trappool_cli.proofs.Judging.{answers_each, begins_list, completeness, judges_list}
use Rattle.trappool_cli.proofs.top.trappool_main.Goals as goal

pub returns-clause-usage : goal.returns-clause-usage
returns-clause-usage g c = usage_ends (map (string_bytes {Z = Global}) c.args.words.now) (g.T.Tray.state c.args.tray.now) (g.T.Tray.state c.run.new.tray) (g.R.Rack.state c.args.rack.now) (g.R.Rack.state c.run.new.rack) c.run.result c.run.ensures

pub returns-clause-refused_list : goal.returns-clause-refused_list
returns-clause-refused_list g c = refused_list (map (string_bytes {Z = Global}) c.args.words.now) (g.T.Tray.state c.args.tray.now) (g.T.Tray.state c.run.new.tray) (g.R.Rack.state c.args.rack.now) (g.R.Rack.state c.run.new.rack) c.run.result c.run.ensures

pub returns-clause-files : goal.returns-clause-files
returns-clause-files g c = leaves_files (map (string_bytes {Z = Global}) c.args.words.now) (g.T.Tray.state c.args.tray.now) (g.T.Tray.state c.run.new.tray) (g.R.Rack.state c.args.rack.now) (g.R.Rack.state c.run.new.rack) c.run.result c.run.ensures

pub returns-clause-success : goal.returns-clause-success
returns-clause-success g c = success (map (string_bytes {Z = Global}) c.args.words.now) (g.T.Tray.state c.args.tray.now) (g.T.Tray.state c.run.new.tray) (g.R.Rack.state c.args.rack.now) (g.R.Rack.state c.run.new.rack) c.run.result c.run.ensures

pub returns-clause-untold : goal.returns-clause-untold
returns-clause-untold g c = untold (map (string_bytes {Z = Global}) c.args.words.now) (g.T.Tray.state c.args.tray.now) (g.T.Tray.state c.run.new.tray) (g.R.Rack.state c.args.rack.now) (g.R.Rack.state c.run.new.rack) c.run.result c.run.ensures

pub returns-clause-answers : goal.returns-clause-answers
returns-clause-answers g c = answers_lines (map (string_bytes {Z = Global}) c.args.words.now) (g.T.Tray.state c.args.tray.now) (g.T.Tray.state c.run.new.tray) (g.R.Rack.state c.args.rack.now) (g.R.Rack.state c.run.new.rack) c.run.result c.run.ensures

pub returns-clause-statuses : goal.returns-clause-statuses
returns-clause-statuses g c = statuses (map (string_bytes {Z = Global}) c.args.words.now) (g.T.Tray.state c.args.tray.now) (g.T.Tray.state c.run.new.tray) (g.R.Rack.state c.args.rack.now) (g.R.Rack.state c.run.new.rack) c.run.result c.run.ensures

pub returns-clause-judged : goal.returns-clause-judged
returns-clause-judged g c = judges_list (map (string_bytes {Z = Global}) c.args.words.now) (g.T.Tray.state c.args.tray.now) (g.T.Tray.state c.run.new.tray) (g.R.Rack.state c.args.rack.now) (g.R.Rack.state c.run.new.rack) c.run.result c.one_reading.ensures c.run.ensures

pub returns-clause-each_line : goal.returns-clause-each_line
returns-clause-each_line g c = answers_each (map (string_bytes {Z = Global}) c.args.words.now) (g.T.Tray.state c.args.tray.now) (g.T.Tray.state c.run.new.tray) (g.R.Rack.state c.args.rack.now) (g.R.Rack.state c.run.new.rack) c.run.result c.one_verdict.ensures c.run.ensures

pub returns-clause-begins : goal.returns-clause-begins
returns-clause-begins g c = begins_list (map (string_bytes {Z = Global}) c.args.words.now) (g.T.Tray.state c.args.tray.now) (g.T.Tray.state c.run.new.tray) (g.R.Rack.state c.args.rack.now) (g.R.Rack.state c.run.new.rack) c.run.result c.run.ensures

pub returns-clause-completeness : goal.returns-clause-completeness
returns-clause-completeness g c = completeness (map (string_bytes {Z = Global}) c.args.words.now) (g.T.Tray.state c.args.tray.now) (g.T.Tray.state c.run.new.tray) (g.R.Rack.state c.args.rack.now) (g.R.Rack.state c.run.new.rack) c.run.result c.one_reading.ensures c.run.ensures
