-- What is made of one line more is put in.
use Rattle.std.proofs.lemmas.Grind.{common_steps}
use Rattle.std.proofs.Common.{arith, rules}
use Rattle.trap_pool.proofs.Settling.{all_then}
use Rattle.trap_pool.proofs.taking.take_in.Goals as goal

pub loop-slot-preserved-in_default-Some : goal.loop-slot-preserved-in_default-Some
loop-slot-preserved-in_default-Some g c =
    all_then c.args.gathered.now.items c.loop-slot.gathered.items c.settle_at.new.gathered.items
    c.loop-slot.invariant c.settle_at.ensures

pub returns : goal.returns
returns g c = search rules

pub loop-slot-preserved : goal.loop-slot-preserved
loop-slot-preserved g c = grind (arith, common_steps)

pub loop-slot-init : goal.loop-slot-init
loop-slot-init g c = grind (arith, common_steps)
