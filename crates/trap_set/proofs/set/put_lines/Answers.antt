-- put_lines: puts the first two lines, and those of the runs.
use Rattle.std.proofs.lemmas.Result.{err_from_is_err_and}
use Rattle.std.proofs.Common.{◌++◌}
use Rattle.page_model.specs.Shapes.{tall}
use Rattle.trap_set.specs.Rows.{rows_text}
use Rattle.trap_set.specs.SetText.{head_of, page_line, title_line}
use Rattle.trap_set.proofs.HoldingLemmas.{puts_then, puts_failed}
use Rattle.trap_set.proofs.set.put_lines.Goals as goal

pub returns : goal.returns
returns g c = puts_then c.in_ok-put_head.field-0 c.put_rows.result (title_line ++ page_line (head_of c.args.old.now)) (rows_text c.args.old.now c.args.new.now (tall c.args.old.now)) c.args.stored.now.items c.put_head.new.stored.items c.put_rows.new.stored.items
    (g.R.Rack.state c.args.rack.now) (g.R.Rack.state c.put_head.new.rack) (g.R.Rack.state c.put_rows.new.rack) c.in_ok-put_head.ensures c.put_rows.ensures

pub returns-in_err-put_head : goal.returns-in_err-put_head
returns-in_err-put_head g c =
    let p = err_from_is_err_and c.from_residual.result c.from_residual.ensures.1 in
    rw p.1 (puts_failed c.in_err-put_head.field-0.0 _ (title_line ++ page_line (head_of c.args.old.now)) (rows_text c.args.old.now c.args.new.now (tall c.args.old.now)) c.args.stored.now.items c.put_head.new.stored.items c.put_head.new.stored.items (g.R.Rack.state c.args.rack.now) (g.R.Rack.state c.put_head.new.rack) c.in_err-put_head.ensures)
