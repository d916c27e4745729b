-- put_sample: puts the line of the run that begins at a sample, where one does.
use Rattle.std.proofs.Common.{◌≡◌, [], ap, sym, ◌∙◌, refl}
use Rattle.trap_set.specs.Rows.{run_text}
use Rattle.trap_set.specs.Runs.{run_at}
use Rattle.trap_set.specs.SetText.{run_line}
use Rattle.trap_set.proofs.HoldingLemmas.{puts_as}
use Rattle.std.proofs.Common.{Bool, if◌then◌else◌}
use Rattle.trap_set.proofs.writing.put_sample.Goals as goal

pub returns-then-begins_at : goal.returns-then-begins_at
returns-then-begins_at g c =
    let run = run_at c.args.old.now c.args.new.now c.args.x c.args.y in
    let here : run_line run ≡ run_text c.args.old.now c.args.new.now c.args.y c.args.x = sym (ap (λ (b : Bool). if b then run_line run else []) (sym c.begins_at.ensures ∙ c.if-begins_at.true)) in
    puts_as c.put_run.result (run_line run) (run_text c.args.old.now c.args.new.now c.args.y c.args.x) c.args.stored.now.items c.args.stored.now.items c.put_run.new.stored.items (g.R.Rack.state c.args.rack.now) (g.R.Rack.state c.put_run.new.rack) here refl c.put_run.ensures
