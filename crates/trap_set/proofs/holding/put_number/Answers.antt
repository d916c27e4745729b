-- put_number: puts a space and a number.
use Rattle.std.proofs.lemmas.Result.{err_from_is_err_and}
use Rattle.std.proofs.Common.{[], ◌∷◌, refl, ◌∙◌}
use Rattle.std.specs.Fmt.{decimal}
use Rattle.trap_set.proofs.HoldingLemmas.{puts_then, puts_failed, puts_as}
use Rattle.trap_set.proofs.holding.put_number.Goals as goal

pub returns : goal.returns
returns g c = puts_then c.in_ok-put.field-0 c.put-2.result (32 ∷ []) (decimal c.args.n) c.args.stored.now.items c.put.new.stored.items c.put-2.new.stored.items
    (g.R.Rack.state c.args.rack.now) (g.R.Rack.state c.put.new.rack) (g.R.Rack.state c.put-2.new.rack)
    c.in_ok-put.ensures (puts_as c.put-2.result c.as_bytes.result.now (decimal c.args.n) c.put.new.stored.items c.put.new.stored.items c.put-2.new.stored.items _ _ (c.as_bytes.ensures.value ∙ c.format.ensures.text) refl c.put-2.ensures)

pub returns-in_err-put : goal.returns-in_err-put
returns-in_err-put g c =
    let p = err_from_is_err_and c.from_residual.result c.from_residual.ensures.1 in
    rw p.1 (
    puts_failed c.in_err-put.field-0.0 _ (32 ∷ []) (decimal c.args.n) c.args.stored.now.items c.put.new.stored.items c.put.new.stored.items
    (g.R.Rack.state c.args.rack.now) (g.R.Rack.state c.put.new.rack) c.in_err-put.ensures
    )
