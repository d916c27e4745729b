-- mark_block: a block that nothing black touches has no mark.
use Rattle.std.proofs.Common.{◌≡◌, ℕ, Bool, false, refl, ◌∙◌, if◌then◌else◌}
use Rattle.keepaway.specs.Keepaway.{covered, is_open}
use Rattle.keepaway.proofs.marks.mark_block.Goals as goal

no_mark : (cover : Bool) (m : ℕ) → cover ≡ false → 0 ≡ (if cover then m else 0)
no_mark cover m e = rw e refl

pub returns-else-is_black_near-clause-block : goal.returns-else-is_black_near-clause-block
returns-else-is_black_near-clause-block c = λ x begun ended. c.clear.ensures.block x begun ended
    ∙ no_mark (covered c.args.page.now c.args.limit (record { x = x; y = c.args.y })) (if is_open c.args.page.now (record { x = x; y = c.args.y }) then 2 else 1) (c.is_black_near.ensures c.if-is_black_near.false x begun ended)
