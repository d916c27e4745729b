-- put_cells: goals that the search finds slowly.
use Rattle.std.proofs.Common.{arith}
use Rattle.std.proofs.lemmas.Grind.{common_steps}
use Rattle.band_claims.proofs.putting.put_cells.Goals as goal

pub make_words-requires-clause-values : goal.make_words-requires-clause-values
make_words-requires-clause-values g c = grind (arith, common_steps)

pub put_words-requires-clause-inside : goal.put_words-requires-clause-inside
put_words-requires-clause-inside g c = grind (arith, common_steps)

pub put_words-requires-clause-words : goal.put_words-requires-clause-words
put_words-requires-clause-words g c = grind (arith, common_steps)

pub make_words-requires-clause-fit : goal.make_words-requires-clause-fit
make_words-requires-clause-fit g c = grind (arith, common_steps)

pub loop-done-preserved : goal.loop-done-preserved
loop-done-preserved g c = grind (arith, common_steps)

pub make_words-requires-clause-some : goal.make_words-requires-clause-some
make_words-requires-clause-some g c = grind (arith, common_steps)

pub make_words-requires-clause-cells : goal.make_words-requires-clause-cells
make_words-requires-clause-cells g c = grind (arith, common_steps)

pub make_words-requires-clause-phase : goal.make_words-requires-clause-phase
make_words-requires-clause-phase g c = grind (arith, common_steps)

pub make_words-requires-clause-bound : goal.make_words-requires-clause-bound
make_words-requires-clause-bound g c = grind (arith, common_steps)

pub make_words-requires-clause-few : goal.make_words-requires-clause-few
make_words-requires-clause-few g c = grind (arith, common_steps)

pub make_words-requires-clause-piece : goal.make_words-requires-clause-piece
make_words-requires-clause-piece g c = grind (arith, common_steps)

pub returns-clause-filled : goal.returns-clause-filled
returns-clause-filled g c = grind (arith, common_steps)
