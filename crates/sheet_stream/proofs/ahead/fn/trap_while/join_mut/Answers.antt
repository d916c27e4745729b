-- The closure of trap_while: what it ensures is what trap_row does.
use Rattle.sheet_stream.proofs.ahead.fn.trap_while.join_mut.Goals as goal

pub returns : goal.returns
returns g c = c.trap_row.ensures
