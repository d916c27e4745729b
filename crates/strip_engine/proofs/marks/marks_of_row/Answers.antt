-- marks_of_row: the marks of row y.
use Rattle.std.proofs.Common.{◌+◌, ◌∙◌, ap, arith, length}
use Rattle.strip_engine.proofs.WholeLemmas.{sample_marks-length}
use Rattle.strip_engine.proofs.ZoneRows.{marks_of_row-are, rows_fit}
use Rattle.strip_engine.proofs.marks.marks_of_row.Goals as goal

pub rows_between-requires-clause-inside : goal.rows_between-requires-clause-inside
rows_between-requires-clause-inside c = rows_fit c.args.page.now c.width.result c.args.y (c.args.y + 1) c.args.marks.now c.width.ensures.value (omega arith) (omega (arith, c.requires.row)) (ap length c.requires.marks ∙ sample_marks-length c.args.page.now)

pub returns : goal.returns
returns c = marks_of_row-are c.args.page.now c.width.result c.args.y c.args.marks.now c.rows_between.result.now c.width.ensures.value c.requires.row c.requires.marks c.rows_between.ensures
