-- Goals of page_with that want a lemma by name.
use Rattle.std.proofs.lemmas.Grind.{common_steps}
use Rattle.std.proofs.Common.{arith, sym}
use Rattle.trap_c.proofs.PageLemmas.{can_assemble, fills_if}
use Rattle.trap_c.proofs.page.page_with.Goals as goal

pub assemble_planes-requires-clause-planes : goal.assemble_planes-requires-clause-planes
assemble_planes-requires-clause-planes c = can_assemble c.args.layout c.args.copies.planes c.args.names.now c.requires.layout c.requires.some c.requires.few c.requires.count c.requires.planes (sym c.in-None.ensures)

pub returns-in-None-clause-layout : goal.returns-in-None-clause-layout
returns-in-None-clause-layout c = fills_if c.args.job c.args.layout c.args.copies.planes c.args.names.now c.assemble_planes.result c.requires.some c.requires.count c.requires.planes c.assemble_planes.ensures

pub returns-in-Some-clause-gives : goal.returns-in-Some-clause-gives
returns-in-Some-clause-gives c = grind (arith, common_steps)
