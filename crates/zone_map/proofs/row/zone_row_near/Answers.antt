-- zone_row_near: writes the zone of each sample of row y, from the left.
use Rattle.std.proofs.Common.{◌≡◌, ◌-◌, arith, length}
use Rattle.std.proofs.lemmas.Grind.{common_steps}
use Rattle.page_model.specs.Zones.{zone_of}
use Rattle.zone_map.proofs.row.zone_row_near.Goals as goal

pub returns-clause-zones : goal.returns-clause-zones
unfolding zone_of
returns-clause-zones c =
    let all : c.loop-n.n ≡ length c.args.page.now.zones - 1 = omega (arith, c.loop-n-test.false, c.loop-n.invariant.end, c.loop-n.auto.n-end) in
    record { wide = c.loop-n.invariant.out; each = λ x l. rw (← all) (c.loop-n.invariant.done x l) }

pub loop-n-init : goal.loop-n-init
loop-n-init c = grind (arith, common_steps)

pub invariant_of-spans : goal.invariant_of-spans
invariant_of-spans c = grind (arith, common_steps)

pub loop-n-preserved : goal.loop-n-preserved
loop-n-preserved c = grind (arith, common_steps)
