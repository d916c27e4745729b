-- add_row: adds the new tints of plate c in row y to those of the rows above it.
use Rattle.std.proofs.Common.{◌∙◌}
use Rattle.page_tally.proofs.CountLemmas.{row_differences}
use Rattle.trap_engine.proofs.TakeLemmas.{row_taken}
use Rattle.trap_engine.proofs.plates.add_row.Goals as goal

pub returns-clause-count : goal.returns-clause-count
returns-clause-count c = c.differences.ensures.count ∙ row_differences c.args.page.now c.tints_of_row.result.now c.args.row.now c.args.y c.args.c _ c.requires.row.long c.tints_of_row.ensures.each c.requires.row.each

pub returns-clause-tints : goal.returns-clause-tints
returns-clause-tints c = rw c.in-Ok.ensures.items (row_taken c.args.page.now c.args.c c.args.y c.args.tints.now.items c.args.row.now c.requires.row c.requires.tints)
