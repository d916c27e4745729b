-- put_samples: puts the new tints of plate c into row y of its plane, sample by sample from one on
-- and before another.
use Rattle.std.proofs.Common.{◌≡◌, ℕ, ◌+◌, ◌*◌, arith, subst}
use Rattle.page_model.specs.Page.{width}
use Rattle.page_tally.specs.Standing.{IsTrappedTo}
use Rattle.page_tally.proofs.StandingLemmas.{row_long, row_put}
use Rattle.page_tally.proofs.planes.put_samples.Goals as goal

pub set-old-requires : goal.set-old-requires
set-old-requires c = row_long c.args.page.now c.args.y c.args.c c.loop-x.x c.width.result c.loop-x.plane c.width.ensures.value c.requires.line (omega (arith, c.requires.inside)) c.loop-x.invariant

pub loop-x-preserved : goal.loop-x-preserved
loop-x-preserved c = rw c.set-old.ensures.put (row_put c.args.page.now c.args.y c.args.c c.loop-x.x _ c.width.result c.loop-x.plane c.width.ensures.value c.requires.line (omega (arith, c.requires.inside)) (c.requires.after.each c.loop-x.x (omega (arith, c.requires.inside))) c.loop-x.invariant)

pub returns : goal.returns
returns c = subst (λ (n : ℕ). IsTrappedTo c.args.page.now c.args.c (c.args.y * width c.args.page.now + n) c.loop-x.plane) (let all : c.loop-x.x ≡ c.args.to = omega (arith, c.loop-x-test.false, c.loop-x.auto.x-end, c.requires.order) in all) c.loop-x.invariant
