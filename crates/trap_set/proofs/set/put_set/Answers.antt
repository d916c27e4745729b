-- put_set: puts the whole set.
use Rattle.std.proofs.lemmas.Result.{err_from_is_err_and}
use Rattle.std.proofs.Common.{◌++◌, sym, refl}
use Rattle.page_model.specs.Shapes.{tall}
use Rattle.trap_set.specs.Rows.{rows_text}
use Rattle.trap_set.specs.SetText.{head_of, page_line, title_line, end_line, set_text}
use Rattle.trap_set.proofs.HoldingLemmas.{puts_as, puts_then, puts_prefix}
use Rattle.trap_set.proofs.TextLemmas.{set_is}
use Rattle.trap_set.proofs.set.put_set.Goals as goal

pub returns : goal.returns
returns g c = puts_as c.put.result (((title_line ++ page_line (head_of c.args.old.now)) ++ rows_text c.args.old.now c.args.new.now (tall c.args.old.now)) ++ end_line) (set_text c.args.old.now c.args.new.now) c.args.stored.now.items c.args.stored.now.items c.put.new.stored.items (g.R.Rack.state c.args.rack.now) (g.R.Rack.state c.put.new.rack) (set_is c.args.old.now c.args.new.now) refl (puts_then c.in_ok-put_lines.field-0 c.put.result ((title_line ++ page_line (head_of c.args.old.now)) ++ rows_text c.args.old.now c.args.new.now (tall c.args.old.now)) end_line c.args.stored.now.items c.put_lines.new.stored.items c.put.new.stored.items
    (g.R.Rack.state c.args.rack.now) (g.R.Rack.state c.put_lines.new.rack) (g.R.Rack.state c.put.new.rack) c.in_ok-put_lines.ensures c.put.ensures)

pub returns-in_err-put_lines : goal.returns-in_err-put_lines
returns-in_err-put_lines g c =
    let p = err_from_is_err_and c.from_residual.result c.from_residual.ensures.1 in
    rw p.1 (puts_prefix c.in_err-put_lines.field-0.0 _ ((title_line ++ page_line (head_of c.args.old.now)) ++ rows_text c.args.old.now c.args.new.now (tall c.args.old.now)) end_line (set_text c.args.old.now c.args.new.now) c.args.stored.now.items c.put_lines.new.stored.items c.put_lines.new.stored.items (g.R.Rack.state c.args.rack.now) (g.R.Rack.state c.put_lines.new.rack) (sym (set_is c.args.old.now c.args.new.now)) c.in_err-put_lines.ensures)
