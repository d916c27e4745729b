-- put_row: puts the lines of the runs of a row.
use Rattle.std.proofs.lemmas.Result.{err_from_is_err_and}
use Rattle.std.proofs.Common.{◌++◌, ◌+◌, sym, refl, arith, Ok, Err}
use Rattle.page_model.specs.Shapes.{wide}
use Rattle.trap_set.specs.Rows.{row_text, run_text}
use Rattle.trap_set.proofs.HoldingLemmas.{puts_as, puts_then, puts_prefix}
use Rattle.trap_set.proofs.TextLemmas.{row_next, row_after}
use Rattle.trap_set.proofs.SkipLemmas.{row_stays}
use Rattle.std.proofs.Common.{◌≡◌, ap}
use Rattle.trap_set.proofs.writing.put_row.Goals as goal

pub returns-in_err-put_sample : goal.returns-in_err-put_sample
returns-in_err-put_sample g c =
    let p = err_from_is_err_and c.from_residual.result c.from_residual.ensures.1 in
    rw p.1 (
    let more = row_after c.args.old.now c.args.new.now c.args.y c.loop-x.x (wide c.args.old.now) (omega arith) in
    puts_prefix c.in_err-put_sample.field-0.0 _ ((row_text c.args.old.now c.args.new.now c.args.y c.loop-x.x) ++ (run_text c.args.old.now c.args.new.now c.args.y c.loop-x.x)) more.0 (row_text c.args.old.now c.args.new.now c.args.y (wide c.args.old.now)) c.args.stored.now.items c.put_sample.new.stored.items c.put_sample.new.stored.items
    (g.R.Rack.state c.args.rack.now) (g.R.Rack.state c.put_sample.new.rack) more.1
    (puts_then tt (Err c.in_err-put_sample.field-0.0) (row_text c.args.old.now c.args.new.now c.args.y c.loop-x.x) (run_text c.args.old.now c.args.new.now c.args.y c.loop-x.x) c.args.stored.now.items c.loop-x.stored.items c.put_sample.new.stored.items (g.R.Rack.state c.args.rack.now) (g.R.Rack.state c.loop-x.rack) (g.R.Rack.state c.put_sample.new.rack) c.loop-x.invariant.1 c.in_err-put_sample.ensures)
    )

pub loop-x-preserved : goal.loop-x-preserved
loop-x-preserved g c = (
  omega arith,
  puts_as (Ok tt) ((row_text c.args.old.now c.args.new.now c.args.y c.loop-x.x) ++ (run_text c.args.old.now c.args.new.now c.args.y c.loop-x.x)) (row_text c.args.old.now c.args.new.now c.args.y (c.loop-x.x + 1)) c.args.stored.now.items c.args.stored.now.items c.put_sample.new.stored.items (g.R.Rack.state c.args.rack.now) (g.R.Rack.state c.put_sample.new.rack) (sym (row_next c.args.old.now c.args.new.now c.args.y c.loop-x.x)) refl
      (puts_then tt (Ok tt) (row_text c.args.old.now c.args.new.now c.args.y c.loop-x.x) (run_text c.args.old.now c.args.new.now c.args.y c.loop-x.x) c.args.stored.now.items c.loop-x.stored.items c.put_sample.new.stored.items (g.R.Rack.state c.args.rack.now) (g.R.Rack.state c.loop-x.rack) (g.R.Rack.state c.put_sample.new.rack) c.loop-x.invariant.1 c.in_ok-put_sample.ensures),
)

pub loop-x-preserved-then-x-next : goal.loop-x-preserved-then-x-next
loop-x-preserved-then-x-next g c = (
  omega (arith, c.skip_same-next.ensures.within),
  puts_as (Ok tt) (row_text c.args.old.now c.args.new.now c.args.y c.loop-x.x) (row_text c.args.old.now c.args.new.now c.args.y c.skip_same-next.result) c.args.stored.now.items c.args.stored.now.items c.loop-x.stored.items (g.R.Rack.state c.args.rack.now) (g.R.Rack.state c.loop-x.rack)
      (row_stays c.args.old.now c.args.new.now c.args.y c.loop-x.x c.skip_same-next.result (omega (arith, c.if-x-next.true)) c.skip_same-next.ensures.same) refl c.loop-x.invariant.1,
)

pub returns : goal.returns
returns g c =
    let end : c.loop-x.x ≡ wide c.args.old.now = omega (arith, c.loop-x.invariant.0, c.requires.width) in
    puts_as (Ok tt) (row_text c.args.old.now c.args.new.now c.args.y c.loop-x.x) (row_text c.args.old.now c.args.new.now c.args.y (wide c.args.old.now)) c.args.stored.now.items c.args.stored.now.items c.loop-x.stored.items (g.R.Rack.state c.args.rack.now) (g.R.Rack.state c.loop-x.rack)
    (ap (row_text c.args.old.now c.args.new.now c.args.y) end) refl c.loop-x.invariant.1
