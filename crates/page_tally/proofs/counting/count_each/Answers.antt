-- count_each: counts the samples of row y from one on and before another, each in its zone.
use Rattle.std.proofs.Common.{◌≡◌, ℕ, ◌+◌, ◌*◌, arith, subst}
use Rattle.page_model.specs.Page.{width}
use Rattle.page_tally.specs.Standing.{AreSamplesCounted}
use Rattle.page_tally.proofs.counting.count_each.Goals as goal

pub returns : goal.returns
returns c = subst (λ (n : ℕ). AreSamplesCounted c.args.page.now c.args.first (c.args.y * width c.args.page.now + n) c.loop-x.counts) (let all : c.loop-x.x ≡ c.args.to = omega (arith, c.loop-x-test.false, c.loop-x.auto.x-end, c.requires.order) in all) c.loop-x.invariant
