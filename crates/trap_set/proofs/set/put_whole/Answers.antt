-- put_whole: puts the whole set, and holds nothing back.
use Rattle.std.proofs.lemmas.Result.{err_from_is_err_and}
use Rattle.std.proofs.Common.{[], ◌++◌, sym, refl}
use Rattle.trap_set.specs.SetText.{set_text}
use Rattle.trap_set.proofs.HoldingLemmas.{puts_as, puts_then, puts_prefix}
use Rattle.std.proofs.lemmas.List.{append-nil}
use Rattle.trap_set.proofs.set.put_whole.Goals as goal

pub returns-clause-puts : goal.returns-clause-puts
returns-clause-puts g c = puts_as c.flush.result ((set_text c.args.old.now c.args.new.now) ++ []) (set_text c.args.old.now c.args.new.now) c.args.stored.now.items c.args.stored.now.items c.flush.new.stored.items (g.R.Rack.state c.args.rack.now) (g.R.Rack.state c.flush.new.rack) (append-nil (set_text c.args.old.now c.args.new.now)) refl (puts_then c.in_ok-put_set.field-0 c.flush.result (set_text c.args.old.now c.args.new.now) [] c.args.stored.now.items c.put_set.new.stored.items c.flush.new.stored.items
    (g.R.Rack.state c.args.rack.now) (g.R.Rack.state c.put_set.new.rack) (g.R.Rack.state c.flush.new.rack) c.in_ok-put_set.ensures c.flush.ensures.puts)

pub returns-in_err-put_set-clause-puts : goal.returns-in_err-put_set-clause-puts
returns-in_err-put_set-clause-puts g c =
    let p = err_from_is_err_and c.from_residual.result c.from_residual.ensures.1 in
    rw p.1 (puts_prefix c.in_err-put_set.field-0.0 _ (set_text c.args.old.now c.args.new.now) [] (set_text c.args.old.now c.args.new.now) c.args.stored.now.items c.put_set.new.stored.items c.put_set.new.stored.items (g.R.Rack.state c.args.rack.now) (g.R.Rack.state c.put_set.new.rack) (sym (append-nil (set_text c.args.old.now c.args.new.now))) c.in_err-put_set.ensures)
