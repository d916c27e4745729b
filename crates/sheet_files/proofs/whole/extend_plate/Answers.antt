-- extend_plate: adds tints after those of plate c.
use Rattle.std.proofs.lemmas.Grind.{common_steps}
use Rattle.std.proofs.Common.{arith, ◌≡◌, ℕ, ◌++◌, [], Bool, List, ap, ◌∙◌}
use Rattle.std.specs.Prelude.{if◌then◌else◌, slice_index_or, slice_set}
use Rattle.sheet_files.proofs.Extending.{read_some, set_twice}
use Rattle.sheet_files.proofs.whole.extend_plate.Goals as goal

pub returns : goal.returns
returns c =
    let old = read_some c.args.out.now c.args.c c.set.result c.set.ensures.old in
    let ok = c.if-is_err.ensures.negation in
    let items : c.extend_from_slice.new.self.items ≡ slice_index_or c.args.out.now c.args.c [] ++ c.args.tints.now =
    c.extend_from_slice.ensures.items ∙ ap (λ (b : Bool). if b then c.into_vec-plate.result.items ++ c.args.tints.now else c.into_vec-plate.result.items) ok
    ∙ ap (λ (xs : List ℕ). xs ++ c.args.tints.now) (c.into_vec-plate.ensures ∙ old) in
    c.set-empty.ensures.put ∙ (λ i. slice_set (c.set.ensures.put i) c.args.c ((c.from_vec.ensures ∙ items) i)) ∙ set_twice c.args.out.now c.args.c c.new.result (slice_index_or c.args.out.now c.args.c [] ++ c.args.tints.now)

pub set-empty-requires : goal.set-empty-requires
set-empty-requires c = grind (arith, common_steps)
