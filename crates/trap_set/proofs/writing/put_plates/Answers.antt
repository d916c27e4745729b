-- put_plates: puts how many planes there are, and the end of the line.
use Rattle.std.proofs.lemmas.Result.{err_from_is_err_and}
use Rattle.std.proofs.Common.{[], ◌∷◌, ◌++◌}
use Rattle.std.specs.Prelude.{codes}
use Rattle.trap_set.specs.SetText.{number}
use Rattle.trap_set.proofs.HoldingLemmas.{puts_then, puts_failed}
use Rattle.trap_set.proofs.writing.put_plates.Goals as goal

pub returns : goal.returns
returns g c = puts_then c.in_ok-put_count.field-0 c.put.result (codes " plates" ++ number c.args.plates) (10 ∷ []) c.args.stored.now.items c.put_count.new.stored.items c.put.new.stored.items
    (g.R.Rack.state c.args.rack.now) (g.R.Rack.state c.put_count.new.rack) (g.R.Rack.state c.put.new.rack) c.in_ok-put_count.ensures c.put.ensures

pub returns-in_err-put_count : goal.returns-in_err-put_count
returns-in_err-put_count g c =
    let p = err_from_is_err_and c.from_residual.result c.from_residual.ensures.1 in
    rw p.1 (
    puts_failed c.in_err-put_count.field-0.0 _ (codes " plates" ++ number c.args.plates) (10 ∷ []) c.args.stored.now.items c.put_count.new.stored.items c.put_count.new.stored.items
    (g.R.Rack.state c.args.rack.now) (g.R.Rack.state c.put_count.new.rack) c.in_err-put_count.ensures
    )
