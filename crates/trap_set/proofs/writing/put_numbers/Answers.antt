-- put_numbers: puts a space and a number, for each of some.
use Rattle.std.proofs.lemmas.Result.{err_from_is_err_and}
use Rattle.std.proofs.lemmas.Grind.{common_steps}
use Rattle.std.proofs.Common.{arith, ◌++◌, get_or, take, drop, Err, ◌+◌}
use Rattle.std.specs.List.{flat_map}
use Rattle.trap_set.specs.SetText.{number}
use Rattle.trap_set.proofs.HoldingLemmas.{puts_prefix, puts_then}
use Rattle.trap_set.proofs.TextLemmas.{numbers_rest}
use Rattle.trap_set.proofs.writing.put_numbers.Goals as goal

pub returns-in_err-put_number : goal.returns-in_err-put_number
returns-in_err-put_number g c =
    let p = err_from_is_err_and c.from_residual.result c.from_residual.ensures.1 in
    rw p.1 (
    let xs = c.args.numbers.now in
    let i = c.loop-n.n-index in
    let prefix = flat_map number (take i xs) in
    puts_prefix c.in_err-put_number.field-0.0 _ (prefix ++ number (get_or xs i 0)) (flat_map number (drop (i + 1) xs)) (flat_map number xs) c.args.stored.now.items c.put_number.new.stored.items c.put_number.new.stored.items
    (g.R.Rack.state c.args.rack.now) (g.R.Rack.state c.put_number.new.rack) (numbers_rest xs i c.loop-n-test.true)
    (puts_then tt (Err c.in_err-put_number.field-0.0) prefix (number (get_or xs i 0)) c.args.stored.now.items c.loop-n.stored.items c.put_number.new.stored.items (g.R.Rack.state c.args.rack.now) (g.R.Rack.state c.loop-n.rack) (g.R.Rack.state c.put_number.new.rack) c.loop-n.invariant c.in_err-put_number.ensures)
    )

pub loop-n-preserved : goal.loop-n-preserved
loop-n-preserved g c = grind (arith, common_steps)

pub returns : goal.returns
returns g c = grind (arith, common_steps)
