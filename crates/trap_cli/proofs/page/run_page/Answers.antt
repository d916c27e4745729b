-- run_page: runs the command `page`, and gives how it ended.
use Rattle.std.proofs.Common.{Err}
use Rattle.trap_cli.proofs.page.run_page.Goals as goal

pub returns-in-Err : goal.returns-in-Err
returns-in-Err g c = record {
  result = Err c.in-Err.error;
  between = g.R.Rack.state c.carry_out.new.rack;
  carried = c.in-Err.ensures;
  closed = (c.end_with_error.ensures.line, c.end_with_error.ensures.receipt);
}
