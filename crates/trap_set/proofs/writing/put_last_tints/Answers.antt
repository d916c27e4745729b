-- put_last_tints: puts a sample's tints and the end of the line.
use Rattle.std.proofs.lemmas.Result.{err_from_is_err_and}
use Rattle.std.proofs.Common.{ℕ, [], ◌∷◌, length}
use Rattle.std.specs.List.{flat_map}
use Rattle.lists.specs.Words.{list_below}
use Rattle.trap_set.specs.Runs.{tint_at}
use Rattle.trap_set.specs.SetText.{number}
use Rattle.trap_set.proofs.HoldingLemmas.{puts_then, puts_failed}
use Rattle.trap_set.proofs.writing.put_last_tints.Goals as goal

pub returns : goal.returns
returns g c = puts_then c.in_ok-put_tints.field-0 c.put.result (flat_map number (list_below (λ (k : ℕ). tint_at c.args.planes.now k c.args.x c.args.y) (length c.args.planes.now))) (10 ∷ []) c.args.stored.now.items c.put_tints.new.stored.items c.put.new.stored.items
    (g.R.Rack.state c.args.rack.now) (g.R.Rack.state c.put_tints.new.rack) (g.R.Rack.state c.put.new.rack) c.in_ok-put_tints.ensures c.put.ensures

pub returns-in_err-put_tints : goal.returns-in_err-put_tints
returns-in_err-put_tints g c =
    let p = err_from_is_err_and c.from_residual.result c.from_residual.ensures.1 in
    rw p.1 (
    puts_failed c.in_err-put_tints.field-0.0 _ (flat_map number (list_below (λ (k : ℕ). tint_at c.args.planes.now k c.args.x c.args.y) (length c.args.planes.now))) (10 ∷ []) c.args.stored.now.items c.put_tints.new.stored.items c.put_tints.new.stored.items
    (g.R.Rack.state c.args.rack.now) (g.R.Rack.state c.put_tints.new.rack) c.in_err-put_tints.ensures
    )
