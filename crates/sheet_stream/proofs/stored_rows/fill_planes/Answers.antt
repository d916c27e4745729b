-- fill_planes: reads the next rows of each plate into the strip's planes.
use Rattle.std.proofs.Common.{arith, ◌∙◌}
use Rattle.std.proofs.lemmas.Grind.{common_steps}
use Rattle.sheet_stream.proofs.stored_rows.fill_planes.Goals as goal

pub read_next-result-requires-clause-read : goal.read_next-result-requires-clause-read
read_next-result-requires-clause-read g c = let same = c.as_mut_slice.ensures.value ∙ c.into_vec-planes.ensures ∙ c.replace.ensures.value in rw same c.requires.read

pub read_next-result-requires-clause-kept : goal.read_next-result-requires-clause-kept
read_next-result-requires-clause-kept g c = let same = c.as_mut_slice.ensures.value ∙ c.into_vec-planes.ensures ∙ c.replace.ensures.value in rw same c.requires.kept

pub returns-clause-read : goal.returns-clause-read
returns-clause-read g c = grind (arith, common_steps)

pub returns-clause-count : goal.returns-clause-count
returns-clause-count g c = grind (arith, common_steps)

pub read_next-result-requires-clause-planes : goal.read_next-result-requires-clause-planes
read_next-result-requires-clause-planes g c = grind (arith, common_steps)
