-- flush: writes what is held back.
use Rattle.std.proofs.lemmas.Result.{err_from_is_err_and}
use Rattle.std.proofs.Common.{[]}
use Rattle.trap_set.proofs.HoldingLemmas.{puts_written, puts_broken}
use Rattle.trap_set.proofs.holding.flush.Goals as goal

pub returns-clause-puts : goal.returns-clause-puts
returns-clause-puts g c = puts_written c.in_ok-write_on.field-0 tt c.as_slice.result.now c.args.stored.now.items c.clear.new.self.items (g.R.Rack.state c.args.rack.now) (g.R.Rack.state c.write_on.new.rack) c.requires c.as_slice.ensures.value c.clear.ensures c.in_ok-write_on.ensures

pub returns-in_err-write_on-clause-puts : goal.returns-in_err-write_on-clause-puts
returns-in_err-write_on-clause-puts g c =
    let p = err_from_is_err_and c.from_residual.result c.from_residual.ensures.1 in
    rw p.1 (puts_broken c.in_err-write_on.field-0.0 _ [] c.as_slice.result.now c.args.stored.now.items c.args.stored.now.items (g.R.Rack.state c.args.rack.now) (g.R.Rack.state c.write_on.new.rack) c.as_slice.ensures.value c.in_err-write_on.ensures)
