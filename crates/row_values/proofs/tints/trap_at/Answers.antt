-- trap_at: puts the new tints of p, whose deciding edge the row's columns give, into the row.
use Rattle.std.proofs.lemmas.Grind.{common_steps}
use Rattle.std.proofs.Common.{arith, ◌∙◌, sym}
use Rattle.row_values.proofs.QuietLemmas.{edge_is, edge_small, keeps_far, keeps_here, new_by_columns}
use Rattle.row_values.proofs.RowLemmas.{kept_further}
use Rattle.row_values.proofs.tints.trap_at.Goals as goal

pub is_far-requires-clause-edge : goal.is_far-requires-clause-edge
is_far-requires-clause-edge c = λ e q. edge_small c.args.page.now e c.plates-valid.ensures.valid (edge_is c.args.page.now c.args.p _ e c.requires.edge q)

pub returns-then-is_far-clause-out : goal.returns-then-is_far-clause-out
returns-then-is_far-clause-out c = kept_further c.args.page.now c.args.p.y c.args.p.x c.args.out.now (keeps_far c.args.page.now c.args.p c.args.nearest c.args.reach2 c.plates-valid.ensures.valid c.requires.edge c.requires.reach (sym c.if-is_far.true ∙ c.is_far.ensures)) c.requires.out

pub trap_sample-requires-clause-edge : goal.trap_sample-requires-clause-edge
trap_sample-requires-clause-edge c = λ e q. edge_is c.args.page.now c.args.p _ e c.requires.edge q

pub put_tints-requires-clause-tints : goal.put_tints-requires-clause-tints
put_tints-requires-clause-tints c = λ k l. new_by_columns c.args.page.now c.args.p c.args.nearest k _ c.plates-valid.ensures.valid c.requires.edge (c.trap_sample.ensures.tints k l)

pub returns-else-trap_sample-clause-out : goal.returns-else-trap_sample-clause-out
returns-else-trap_sample-clause-out c = kept_further c.args.page.now c.args.p.y c.args.p.x c.args.out.now (keeps_here c.args.page.now c.args.p c.args.nearest c.plates-valid.ensures.valid c.requires.edge (sym c.trap_sample.ensures.trapped ∙ c.if-trap_sample.false)) c.requires.out

pub put_tints-requires-clause-out : goal.put_tints-requires-clause-out
put_tints-requires-clause-out c = grind (arith, common_steps)

pub returns-then-trap_sample-clause-out : goal.returns-then-trap_sample-clause-out
returns-then-trap_sample-clause-out c = grind (arith, common_steps)
