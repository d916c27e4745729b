-- is_edge_black: whether a side of the edge's greater density has a black ink.
use Rattle.std.proofs.Common.{arith}
use Rattle.trap_color.proofs.SideLemmas.{black_sides}
use Rattle.trap_color.proofs.trapped.is_edge_black.Goals as goal

pub returns-then-own : goal.returns-then-own
returns-then-own c = (let h = black_sides c.args.page.now c.args.params.now c.args.p c.args.e in grind (arith, h))

pub returns-else-own : goal.returns-else-own
returns-else-own c = (let h = black_sides c.args.page.now c.args.params.now c.args.p c.args.e in grind (arith, h))
