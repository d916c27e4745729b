-- put_tints: puts a sample's tints.
use Rattle.std.proofs.lemmas.Result.{err_from_is_err_and}
use Rattle.std.proofs.Common.{◌≡◌, ◌++◌, ◌+◌, ◌-◌, ℕ, length, ap, refl, sym, arith, ◌<◌, Ok, Err}
use Rattle.std.specs.List.{flat_map}
use Rattle.lists.specs.Words.{list_below}
use Rattle.trap_set.specs.Runs.{tint_at}
use Rattle.trap_set.specs.SetText.{number}
use Rattle.trap_set.proofs.HoldingLemmas.{puts_prefix, puts_then, puts_as}
use Rattle.trap_set.proofs.TextLemmas.{tints_next, tints_rest}
use Rattle.trap_set.proofs.writing.put_tints.Goals as goal

pub returns-in_err-put_number : goal.returns-in_err-put_number
returns-in_err-put_number g c =
    let p = err_from_is_err_and c.from_residual.result c.from_residual.ensures.1 in
    rw p.1 (
    let f = λ (k : ℕ). tint_at c.args.planes.now k c.args.x c.args.y in
    let k = c.loop-c.c in
    let n = length c.args.planes.now in
    let prefix = flat_map number (list_below f k) in
    let here : c.from.result ≡ f k = cc in
    let in_range : k < n = omega arith in
    puts_prefix c.in_err-put_number.field-0.0 _ (prefix ++ number (f k)) (flat_map number (list_below (λ (i : ℕ). f (k + 1 + i)) (n - (k + 1)))) (flat_map number (list_below f n)) c.args.stored.now.items c.put_number.new.stored.items c.put_number.new.stored.items
    (g.R.Rack.state c.args.rack.now) (g.R.Rack.state c.put_number.new.rack) (tints_rest f k n in_range)
    (puts_then tt (Err c.in_err-put_number.field-0.0) prefix (number (f k)) c.args.stored.now.items c.loop-c.stored.items c.put_number.new.stored.items (g.R.Rack.state c.args.rack.now) (g.R.Rack.state c.loop-c.rack) (g.R.Rack.state c.put_number.new.rack) c.loop-c.invariant
    (puts_as (Err c.in_err-put_number.field-0.0) (number c.from.result) (number (f k)) c.loop-c.stored.items c.loop-c.stored.items c.put_number.new.stored.items (g.R.Rack.state c.loop-c.rack) (g.R.Rack.state c.put_number.new.rack) (ap number here) refl c.in_err-put_number.ensures))
    )

pub loop-c-preserved : goal.loop-c-preserved
loop-c-preserved g c =
    let f = λ (k : ℕ). tint_at c.args.planes.now k c.args.x c.args.y in
    let k = c.loop-c.c in
    let prefix = flat_map number (list_below f k) in
    let here : c.from.result ≡ f k = cc in
    puts_as (Ok tt) (prefix ++ number (f k)) (flat_map number (list_below f (k + 1))) c.args.stored.now.items c.args.stored.now.items c.put_number.new.stored.items (g.R.Rack.state c.args.rack.now) (g.R.Rack.state c.put_number.new.rack) (sym (tints_next f k)) refl
    (puts_then tt (Ok tt) prefix (number (f k)) c.args.stored.now.items c.loop-c.stored.items c.put_number.new.stored.items (g.R.Rack.state c.args.rack.now) (g.R.Rack.state c.loop-c.rack) (g.R.Rack.state c.put_number.new.rack) c.loop-c.invariant
    (puts_as (Ok tt) (number c.from.result) (number (f k)) c.loop-c.stored.items c.loop-c.stored.items c.put_number.new.stored.items (g.R.Rack.state c.loop-c.rack) (g.R.Rack.state c.put_number.new.rack) (ap number here) refl c.in_ok-put_number.ensures))
