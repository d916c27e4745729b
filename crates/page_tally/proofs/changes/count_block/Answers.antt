-- count_block: counts for each zone the samples of row y that change, of some samples from one on.
use Rattle.std.proofs.Common.{◌≡◌, ℕ, ◌+◌, ◌*◌, arith, subst}
use Rattle.page_model.specs.Page.{width}
use Rattle.page_tally.specs.Standing.{AreZonesCounted}
use Rattle.page_tally.proofs.changes.count_block.Goals as goal

pub returns : goal.returns
returns c = subst (λ (n : ℕ). AreZonesCounted c.args.page.now c.args.first (c.args.y * width c.args.page.now + n) c.loop-x.counts) (let all : c.loop-x.x ≡ c.args.to = omega (arith, c.loop-x-test.false, c.loop-x.auto.x-end, c.requires.order) in all) c.loop-x.invariant
