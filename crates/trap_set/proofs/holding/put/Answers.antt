-- put: puts a piece after what is held back, which is written where there is no room for it.
use Rattle.std.proofs.lemmas.Grind.{common_steps}
use Rattle.std.proofs.lemmas.Result.{err_from_is_err_and}
use Rattle.std.proofs.Common.{arith, [], ap, refl}
use Rattle.trap_set.proofs.HoldingLemmas.{puts_then, puts_failed, puts_as}
use Rattle.trap_set.proofs.holding.put.Goals as goal

pub returns-in_ok-flush-in-Err : goal.returns-in_ok-flush-in-Err
returns-in_ok-flush-in-Err g c =
    let kept = ap (λ h. h.items) c.in-Err.ensures.err in
    puts_then c.in_ok-flush-in-Err.field-0 c.put_past.result [] c.args.piece.now c.args.stored.now.items c.flush.new.stored.items c.put_past.new.stored.items
    (g.R.Rack.state c.args.rack.now) (g.R.Rack.state c.flush.new.rack) (g.R.Rack.state c.put_past.new.rack)
    (puts_as _ [] [] c.try_extend_from_slice.new.self.items c.args.stored.now.items c.flush.new.stored.items _ _ refl kept c.in_ok-flush-in-Err.ensures.puts) c.put_past.ensures

pub returns-in_err-flush-in-Err : goal.returns-in_err-flush-in-Err
returns-in_err-flush-in-Err g c =
    let kept = ap (λ h. h.items) c.in-Err.ensures.err in
    let p = err_from_is_err_and c.from_residual.result c.from_residual.ensures.1 in
    rw p.1 (
    puts_failed c.in_err-flush-in-Err.field-0.0 _ [] c.args.piece.now c.args.stored.now.items c.flush.new.stored.items c.flush.new.stored.items
    (g.R.Rack.state c.args.rack.now) (g.R.Rack.state c.flush.new.rack)
    (puts_as _ [] [] c.try_extend_from_slice.new.self.items c.args.stored.now.items c.flush.new.stored.items _ _ refl kept c.in_err-flush-in-Err.ensures.puts)
    )

pub returns-in-Ok : goal.returns-in-Ok
returns-in-Ok g c = grind (arith, common_steps)
