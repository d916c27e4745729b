-- put_count: puts how many planes there are.
use Rattle.std.proofs.lemmas.Result.{err_from_is_err_and}
use Rattle.std.specs.Prelude.{codes}
use Rattle.trap_set.specs.SetText.{number}
use Rattle.trap_set.proofs.HoldingLemmas.{puts_then, puts_failed}
use Rattle.trap_set.proofs.writing.put_count.Goals as goal

pub returns : goal.returns
returns g c = puts_then c.in_ok-put.field-0 c.put_number.result (codes " plates") (number c.args.plates) c.args.stored.now.items c.put.new.stored.items c.put_number.new.stored.items
    (g.R.Rack.state c.args.rack.now) (g.R.Rack.state c.put.new.rack) (g.R.Rack.state c.put_number.new.rack) c.in_ok-put.ensures c.put_number.ensures

pub returns-in_err-put : goal.returns-in_err-put
returns-in_err-put g c =
    let p = err_from_is_err_and c.from_residual.result c.from_residual.ensures.1 in
    rw p.1 (
    puts_failed c.in_err-put.field-0.0 _ (codes " plates") (number c.args.plates) c.args.stored.now.items c.put.new.stored.items c.put.new.stored.items
    (g.R.Rack.state c.args.rack.now) (g.R.Rack.state c.put.new.rack) c.in_err-put.ensures
    )
