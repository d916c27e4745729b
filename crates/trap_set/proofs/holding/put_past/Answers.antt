-- put_past: puts a piece where nothing is held back.
use Rattle.std.proofs.lemmas.Grind.{common_steps}
use Rattle.std.proofs.Common.{arith, ◌∙◌, ap}
use Rattle.trap_set.proofs.HoldingLemmas.{puts_past}
use Rattle.trap_set.proofs.holding.put_past.Goals as goal

pub returns-in-Err : goal.returns-in-Err
returns-in-Err g c = puts_past _ c.args.piece.now c.args.stored.now.items c.try_extend_from_slice.new.self.items _ _ c.requires.is_open c.requires.none (ap (λ h. h.items) c.in-Err.ensures.err ∙ c.requires.none) c.write_on.ensures

pub returns-in-Ok : goal.returns-in-Ok
returns-in-Ok g c = grind (arith, common_steps)
