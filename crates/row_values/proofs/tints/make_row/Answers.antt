-- make_row: writes the new tints of row y, plate after plate, from the zones of its samples and its
-- column answers.
use Rattle.row_values.proofs.RowLemmas.{row_values, some_width}
use Rattle.row_values.proofs.tints.make_row.Goals as goal

pub returns-clause-tints : goal.returns-clause-tints
returns-clause-tints c = λ j x lj lx. c.fill_row.ensures.out.done j x lj lx lx

pub returns-clause-values : goal.returns-clause-values
returns-clause-values c = row_values c.args.page.now c.args.y c.fill_row.new.out (some_width c.args.page.now c.plates-valid.ensures.valid) c.fill_row.ensures.out
