-- run_order: runs the command, and gives the status that it ends with.
use Rattle.std.proofs.Common.{Err}
use Rattle.traprun_cli.proofs.run.run_order.Goals as goal

pub returns-in-Err : goal.returns-in-Err
returns-in-Err g c = record {
  result = Err c.in-Err.error;
  between = g.R.Rack.state c.carry_out.new.rack;
  runs = c.in-Err.ensures;
  closed = c.refuse_run.ensures;
}
