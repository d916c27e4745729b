-- shade_plate: darkens the samples by plate c, each of which is asked for once.
use Rattle.std.proofs.lemmas.Grind.{common_steps}
use Rattle.std.proofs.Common.{List, ℕ, min, slice_index, ap, ◌∙◌, refl, arith}
use Rattle.std.specs.Vec.{with_items}
use Rattle.std.proofs.lemmas.List.{with_items_is}
use Rattle.page_model.specs.Shapes.{tall}
use Rattle.misregister.proofs.PlateLemmas.{way_at, way_begun, way_done}
use Rattle.misregister.proofs.plate.shade_plate.Goals as goal

pub returns-clause-shades : goal.returns-clause-shades
returns-clause-shades g c = λ x y l m.
    (let planes = c.args.sheet.now in
    let r = c.args.radius in
    let workspace = c.args.workspace.now in
    let begun = way_begun planes r c.args.c (record { row = workspace.row; until = with_items workspace.until c.begin.new.until; shades = workspace.shades }) workspace.shades.items refl
    (λ k n. ap (λ (us : List ℕ). slice_index us k) (with_items_is workspace.until c.begin.new.until (omega arith)) ∙ c.begin.ensures k (omega arith)) in
    let entered = way_at planes r c.args.c workspace.shades.items c.enter_rows.new.workspace _ 0 (min r (tall planes)) 0 (omega arith) refl (c.enter_rows.ensures.entered workspace.shades.items begun) in
    let passed = c.pass_rows.ensures.passed workspace.shades.items entered in
    let left = c.leave_rows.ensures.left r c.args.c workspace.shades.items (omega arith) (omega arith) passed in
    way_done planes r c.args.c workspace.shades.items c.leave_rows.new.workspace left x y l m)

pub returns-clause-steps : goal.returns-clause-steps
returns-clause-steps g c = grind (arith, common_steps)
