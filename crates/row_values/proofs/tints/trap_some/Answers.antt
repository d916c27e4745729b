-- trap_some: traps so many samples of a row from x on.
use Rattle.std.proofs.lemmas.Grind.{common_steps}
use Rattle.std.proofs.Common.{arith}
use Rattle.row_values.proofs.RowLemmas.{kept_all}
use Rattle.row_values.proofs.tints.trap_some.Goals as goal

pub returns-then-are_quiet-clause-out : goal.returns-then-are_quiet-clause-out
returns-then-are_quiet-clause-out c = kept_all c.args.page.now c.args.row.now.y c.args.x c.args.count c.args.out.now (c.are_quiet.ensures.only c.if-are_quiet.true) c.requires.out

pub loop-k-init : goal.loop-k-init
loop-k-init c = grind (arith, common_steps)

pub trap_at-requires-clause-zones : goal.trap_at-requires-clause-zones
trap_at-requires-clause-zones c = grind (arith, common_steps)

pub loop-k-preserved : goal.loop-k-preserved
loop-k-preserved c = grind (arith, common_steps)

pub trap_at-requires-clause-out : goal.trap_at-requires-clause-out
trap_at-requires-clause-out c = grind (arith, common_steps)

pub edge_at-nearest-requires-clause-row : goal.edge_at-nearest-requires-clause-row
edge_at-nearest-requires-clause-row c = grind (arith, common_steps)
