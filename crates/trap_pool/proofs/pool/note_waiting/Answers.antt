-- note_waiting: adds the line's number, where its page waits to be trapped.
use Rattle.std.proofs.Common.{ℕ, List, ◌<◌, ◌+◌, sym, subst, arith}
use Rattle.trap_pool.specs.Rule.{Ascends, times}
use Rattle.trap_pool.proofs.Numbers.{above_both, ascends_more}
use Rattle.trap_pool.proofs.pool.note_waiting.Goals as goal

pub returns-in-Ok-clause-ascends : goal.returns-in-Ok-clause-ascends
returns-in-Ok-clause-ascends c = subst Ascends (sym c.in-Ok.ensures.items) (ascends_more c.args.numbers.now.items c.args.number c.requires.ascends c.requires.above)

pub returns-in-Ok-clause-above : goal.returns-in-Ok-clause-above
returns-in-Ok-clause-above c = λ x some. above_both c.args.numbers.now.items c.args.number (c.args.number + 1) c.requires.above (omega arith) x (subst (λ (l : List ℕ). 0 < times x l) c.in-Ok.ensures.items some)
