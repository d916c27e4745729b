-- put_run: puts the line of the run that begins at a sample.
use Rattle.std.proofs.lemmas.Result.{err_from_is_err_and}
use Rattle.std.proofs.Common.{ℕ, [], ◌∷◌, ◌++◌, length, ap, sym, ◌∙◌, refl}
use Rattle.std.specs.Prelude.{codes}
use Rattle.std.specs.List.{flat_map}
use Rattle.lists.specs.Words.{list_below}
use Rattle.trap_set.specs.Runs.{run_at, tint_at}
use Rattle.trap_set.specs.SetText.{number, run_line}
use Rattle.trap_set.proofs.HoldingLemmas.{puts_as, puts_then, puts_prefix}
use Rattle.trap_set.proofs.TextLemmas.{run_line_is}
use Rattle.trap_set.proofs.writing.put_run.Goals as goal

pub returns : goal.returns
returns g c = puts_as c.put_last_tints.result ((codes "run" ++ flat_map number (c.args.y ∷ c.args.x ∷ c.run_length-count.result ∷ [])) ++ (flat_map number (list_below (λ (k : ℕ). tint_at c.args.new.now k c.args.x c.args.y) (length c.args.new.now)) ++ 10 ∷ [])) (run_line (run_at c.args.old.now c.args.new.now c.args.x c.args.y)) c.args.stored.now.items c.args.stored.now.items c.put_last_tints.new.stored.items (g.R.Rack.state c.args.rack.now) (g.R.Rack.state c.put_last_tints.new.rack) (ap (λ (n : ℕ). (codes "run" ++ flat_map number (c.args.y ∷ c.args.x ∷ n ∷ [])) ++ (flat_map number (list_below (λ (k : ℕ). tint_at c.args.new.now k c.args.x c.args.y) (length c.args.new.now)) ++ 10 ∷ [])) c.run_length-count.ensures ∙ run_line_is (run_at c.args.old.now c.args.new.now c.args.x c.args.y)) refl
    (puts_then c.in_ok-put_place.field-0 c.put_last_tints.result (codes "run" ++ flat_map number (c.args.y ∷ c.args.x ∷ c.run_length-count.result ∷ [])) (flat_map number (list_below (λ (k : ℕ). tint_at c.args.new.now k c.args.x c.args.y) (length c.args.new.now)) ++ 10 ∷ []) c.args.stored.now.items c.put_place.new.stored.items c.put_last_tints.new.stored.items
    (g.R.Rack.state c.args.rack.now) (g.R.Rack.state c.put_place.new.rack) (g.R.Rack.state c.put_last_tints.new.rack) c.in_ok-put_place.ensures c.put_last_tints.ensures)

pub returns-in_err-put_place : goal.returns-in_err-put_place
returns-in_err-put_place g c =
    let p = err_from_is_err_and c.from_residual.result c.from_residual.ensures.1 in
    rw p.1 (
    puts_prefix c.in_err-put_place.field-0.0 _ (codes "run" ++ flat_map number (c.args.y ∷ c.args.x ∷ c.run_length-count.result ∷ [])) (flat_map number (list_below (λ (k : ℕ). tint_at c.args.new.now k c.args.x c.args.y) (length c.args.new.now)) ++ 10 ∷ []) (run_line (run_at c.args.old.now c.args.new.now c.args.x c.args.y)) c.args.stored.now.items c.put_place.new.stored.items c.put_place.new.stored.items
    (g.R.Rack.state c.args.rack.now) (g.R.Rack.state c.put_place.new.rack) (sym (ap (λ (n : ℕ). (codes "run" ++ flat_map number (c.args.y ∷ c.args.x ∷ n ∷ [])) ++ (flat_map number (list_below (λ (k : ℕ). tint_at c.args.new.now k c.args.x c.args.y) (length c.args.new.now)) ++ 10 ∷ [])) c.run_length-count.ensures ∙ run_line_is (run_at c.args.old.now c.args.new.now c.args.x c.args.y))) c.in_err-put_place.ensures
    )
