-- put_rows: puts the lines of all runs.
use Rattle.std.proofs.lemmas.Result.{err_from_is_err_and}
use Rattle.std.proofs.lemmas.Grind.{common_steps}
use Rattle.std.proofs.Common.{◌++◌, ◌+◌, sym, refl, arith, Ok, Err}
use Rattle.page_model.specs.Shapes.{wide, tall}
use Rattle.trap_set.specs.Rows.{row_text, rows_text}
use Rattle.trap_set.proofs.HoldingLemmas.{puts_as, puts_then, puts_prefix}
use Rattle.trap_set.proofs.TextLemmas.{rows_next, rows_after}
use Rattle.trap_set.proofs.writing.put_rows.Goals as goal

pub returns-in_err-put_row : goal.returns-in_err-put_row
returns-in_err-put_row g c =
    let p = err_from_is_err_and c.from_residual.result c.from_residual.ensures.1 in
    rw p.1 (
    let more = rows_after c.args.old.now c.args.new.now c.loop-y.y (tall c.args.old.now) (omega arith) in
    puts_prefix c.in_err-put_row.field-0.0 _ ((rows_text c.args.old.now c.args.new.now c.loop-y.y) ++ (row_text c.args.old.now c.args.new.now c.loop-y.y (wide c.args.old.now))) more.0 (rows_text c.args.old.now c.args.new.now (tall c.args.old.now)) c.args.stored.now.items c.put_row.new.stored.items c.put_row.new.stored.items
    (g.R.Rack.state c.args.rack.now) (g.R.Rack.state c.put_row.new.rack) more.1
    (puts_then tt (Err c.in_err-put_row.field-0.0) (rows_text c.args.old.now c.args.new.now c.loop-y.y) (row_text c.args.old.now c.args.new.now c.loop-y.y (wide c.args.old.now)) c.args.stored.now.items c.loop-y.stored.items c.put_row.new.stored.items (g.R.Rack.state c.args.rack.now) (g.R.Rack.state c.loop-y.rack) (g.R.Rack.state c.put_row.new.rack) c.loop-y.invariant c.in_err-put_row.ensures)
    )

pub loop-y-preserved : goal.loop-y-preserved
loop-y-preserved g c = puts_as (Ok tt) ((rows_text c.args.old.now c.args.new.now c.loop-y.y) ++ (row_text c.args.old.now c.args.new.now c.loop-y.y (wide c.args.old.now))) (rows_text c.args.old.now c.args.new.now (c.loop-y.y + 1)) c.args.stored.now.items c.args.stored.now.items c.put_row.new.stored.items (g.R.Rack.state c.args.rack.now) (g.R.Rack.state c.put_row.new.rack) (sym (rows_next c.args.old.now c.args.new.now c.loop-y.y)) refl
    (puts_then tt (Ok tt) (rows_text c.args.old.now c.args.new.now c.loop-y.y) (row_text c.args.old.now c.args.new.now c.loop-y.y (wide c.args.old.now)) c.args.stored.now.items c.loop-y.stored.items c.put_row.new.stored.items (g.R.Rack.state c.args.rack.now) (g.R.Rack.state c.loop-y.rack) (g.R.Rack.state c.put_row.new.rack) c.loop-y.invariant c.in_ok-put_row.ensures)

pub returns : goal.returns
returns g c = grind (arith, common_steps)
