-- marks_between: the marks of these rows.
use Rattle.std.proofs.Common.{◌+◌, ◌∙◌, ap, arith, length, refl}
use Rattle.strip_engine.proofs.WholeLemmas.{sample_marks-length}
use Rattle.strip_engine.proofs.ZoneRows.{part_of_marks, rows_fit}
use Rattle.strip_engine.proofs.marks.marks_between.Goals as goal

pub rows_between-requires-clause-inside : goal.rows_between-requires-clause-inside
rows_between-requires-clause-inside c = rows_fit c.args.page.now c.width.result c.args.stored.first (c.args.stored.first + c.args.stored.count) c.args.marks.now c.width.ensures.value (omega arith) c.requires.inside (ap length c.requires.marks ∙ sample_marks-length c.args.page.now)

pub returns : goal.returns
returns c = part_of_marks c.args.page.now c.width.result c.args.stored.first c.args.stored.count (c.args.stored.first + c.args.stored.count) c.args.marks.now c.rows_between.result.now c.width.ensures.value c.requires.inside refl c.requires.marks c.rows_between.ensures
