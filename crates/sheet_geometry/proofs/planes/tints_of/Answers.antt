-- What `tints_of` has to show.
use Rattle.std.proofs.lemmas.Grind.{common_steps}
use Rattle.std.proofs.Common.{◌+◌, ◌*◌, ◌++◌, Bool, List, ℕ, ap, ◌∙◌, arith}
use Rattle.std.specs.Prelude.{if◌then◌else◌}
use Rattle.sheet_geometry.proofs.Showing.{shown_next}
use Rattle.sheet_geometry.proofs.planes.tints_of.Goals as goal

pub loop-y-preserved : goal.loop-y-preserved
loop-y-preserved c =
    let run = c.run_of-run.result.now in
    let ok = c.if-is_err.ensures.negation in
    c.extend_from_slice.ensures.items
    ∙ ap (λ (b : Bool). if b then c.loop-y.shown.items ++ run else c.loop-y.shown.items) ok
    ∙ ap (λ (xs : List ℕ). xs ++ run) c.loop-y.invariant
    ∙ shown_next c.args.wide c.args.cut.now c.args.tints.now run c.loop-y.y ((c.args.cut.now.top + c.loop-y.y) * c.args.wide + c.args.cut.now.left) (omega arith) c.run_of-run.ensures.len c.run_of-run.ensures.each

pub run_of-run-requires : goal.run_of-run-requires
run_of-run-requires c = grind (arith, common_steps)
