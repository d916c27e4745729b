-- Goals of assemble that want a lemma by name.
use Rattle.page_files.proofs.AssemblyLemmas.{can_planes}
use Rattle.page_files.proofs.assemble.assemble.Goals as goal

pub assemble_planes-requires-clause-planes : goal.assemble_planes-requires-clause-planes
assemble_planes-requires-clause-planes c = can_planes c.args.plates c.in-Ok.planes c.args.names.now c.requires.plates c.in-Ok.ensures
