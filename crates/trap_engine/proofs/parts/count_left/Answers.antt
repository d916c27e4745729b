-- count_left: counts in the rows of a part out of the closed table, if it is not done yet.
use Rattle.std.proofs.lemmas.Grind.{common_steps}
use Rattle.std.proofs.Common.{arith}
use Rattle.trap_engine.proofs.TableRows.{cells_stored}
use Rattle.trap_engine.proofs.parts.count_left.Goals as goal

pub take_rows-requires-clause-known : goal.take_rows-requires-clause-known
take_rows-requires-clause-known c = λ i _. cells_stored c.args.page.now c.args.closed.now i c.requires.finished

pub returns-clause-part : goal.returns-clause-part
returns-clause-part c = grind (arith, common_steps)
