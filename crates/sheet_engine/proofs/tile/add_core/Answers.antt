-- add_core: adds the counts of a core of the page that was trapped last.
use Rattle.std.proofs.Common.{ap, length, ◌∙◌, arith}
use Rattle.std.proofs.lemmas.Grind.{common_steps}
use Rattle.sheet_engine.proofs.tile.add_core.Goals as goal

pub add_rows-requires-clause-planes : goal.add_rows-requires-clause-planes
add_rows-requires-clause-planes c = rw c.as_slice.ensures c.requires.tints.planes

pub add_rows-requires-clause-changes : goal.add_rows-requires-clause-changes
add_rows-requires-clause-changes c = ap length c.deref_mut.ensures.value ∙ c.requires.shape.outcome.changes

pub add_rows-requires-clause-workspace : goal.add_rows-requires-clause-workspace
add_rows-requires-clause-workspace c = c.requires.workspace

pub returns-clause-shape : goal.returns-clause-shape
returns-clause-shape c = record {
  wide = c.requires.shape.wide;
  deep = c.requires.shape.deep;
  codes = c.requires.shape.codes;
  buffers = c.requires.shape.buffers;
  outcome = grind (arith, common_steps);
}

pub returns-clause-counts : goal.returns-clause-counts
returns-clause-counts c = c.add_rows.ensures.counts
