-- span_of: goals that the search finds slowly.
use Rattle.std.proofs.lemmas.Grind.{common_steps}
use Rattle.std.proofs.Common.{arith}
use Rattle.sheet_geometry.proofs.spans.span_of.Goals as goal

pub returns-then-from-wide-clause-span : goal.returns-then-from-wide-clause-span
returns-then-from-wide-clause-span c = grind (arith, common_steps)
