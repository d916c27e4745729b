-- fill_set: fills the open file with the set.
use Rattle.std.proofs.lemmas.Result.{err_from_is_err_and}
use Rattle.std.proofs.Common.{refl, []}
use Rattle.trap_set.specs.SetText.{set_text}
use Rattle.trap_set.proofs.HoldingLemmas.{fills_whole, fills_part, puts_as}
use Rattle.trap_set.proofs.set.fill_set.Goals as goal

pub returns : goal.returns
returns g c = fills_whole c.in_ok-put_whole.field-0 c.finish.result (set_text c.args.old.now c.args.new.now) c.put_whole.new.stored.items (g.R.Rack.state c.args.rack.now) (g.R.Rack.state c.put_whole.new.rack) (g.R.Rack.state c.finish.new.self) c.in_ok-put_whole.ensures.none
    (puts_as _ (set_text c.args.old.now c.args.new.now) (set_text c.args.old.now c.args.new.now) c.new-stored.result.items [] c.put_whole.new.stored.items (g.R.Rack.state c.args.rack.now) (g.R.Rack.state c.put_whole.new.rack) refl c.new-stored.ensures c.in_ok-put_whole.ensures.puts) c.finish.ensures

pub returns-in_err-put_whole : goal.returns-in_err-put_whole
returns-in_err-put_whole g c =
    let p = err_from_is_err_and c.from_residual.result c.from_residual.ensures.1 in
    rw p.1 (
    fills_part c.in_err-put_whole.field-0.0 _ (set_text c.args.old.now c.args.new.now) c.put_whole.new.stored.items (g.R.Rack.state c.args.rack.now) (g.R.Rack.state c.put_whole.new.rack)
    (puts_as _ (set_text c.args.old.now c.args.new.now) (set_text c.args.old.now c.args.new.now) c.new-stored.result.items [] c.put_whole.new.stored.items (g.R.Rack.state c.args.rack.now) (g.R.Rack.state c.put_whole.new.rack) refl c.new-stored.ensures c.in_err-put_whole.ensures.puts)
    )
