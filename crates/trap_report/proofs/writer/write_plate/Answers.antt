-- What `write_plate` has to show.
use Rattle.std.proofs.lemmas.Result.{err_from_is_err_and}
use Rattle.std.proofs.Common.{◌≡◌, ◌++◌, ◌∷◌, [], ◌∙◌, List, ℕ, Err, codes, decimal, subst}
use Rattle.trap_report.proofs.AllLines.{plate_parts}
use Rattle.trap_report.proofs.writer.write_plate.Goals as goal

pub returns-in_err-add_both-clause-added : goal.returns-in_err-add_both-clause-added
returns-in_err-add_both-clause-added g c =
    let p = err_from_is_err_and c.from_residual.result c.from_residual.ensures.1 in
    rw p.1 (
    let name = c.args.name.now in
    let rest = codes " changed " ++ decimal c.args.changed ++ 10 ∷ [] in
    subst (λ (text : List ℕ). g.S.Sink.adds text c.args.sink.now c.add_both.new.sink (Err c.in_err-add_both.field-0.0)) (plate_parts (codes "plate ") name (codes " changed ") (decimal c.args.changed) (10 ∷ []))
    (g.met.S.Sink.stopped (codes "plate " ++ name) rest c.args.sink.now c.add_both.new.sink c.in_err-add_both.field-0.0 c.in_err-add_both.ensures.added)
    )

pub returns-clause-added : goal.returns-clause-added
returns-clause-added g c =
    let name = c.args.name.now in
    let rest = codes " changed " ++ decimal c.args.changed ++ 10 ∷ [] in
    let said : c.as_slice.result.now ≡ rest = c.as_slice.ensures ∙ c.changed_of-rest.ensures in
    subst (λ (text : List ℕ). g.S.Sink.adds text c.args.sink.now c.add.new.self c.add.result) (plate_parts (codes "plate ") name (codes " changed ") (decimal c.args.changed) (10 ∷ []))
    (g.met.S.Sink.then (codes "plate " ++ name) rest c.args.sink.now c.add_both.new.sink c.add.new.self c.add.result c.in_ok-add_both.ensures.added (subst (λ (text : List ℕ). g.S.Sink.adds text c.add_both.new.sink c.add.new.self c.add.result) said c.add.ensures.added))
