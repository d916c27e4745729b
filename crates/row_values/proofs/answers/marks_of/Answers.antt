-- marks_of: the marks of some rows, as the columns read them.
use Rattle.std.proofs.Common.{arith, subst, sym}
use Rattle.page_model.specs.Columns.{AreMarks}
use Rattle.page_model.specs.Marks.{Marked}
use Rattle.row_values.proofs.AnswerLemmas.{are_marked, stored_marks}
use Rattle.row_values.proofs.RowLemmas.{some_width}
use Rattle.row_values.proofs.answers.marks_of.Goals as goal

pub new-requires : goal.new-requires
new-requires c = are_marked c.args.page.now c.width.result c.args.stored c.args.marks.now c.width.ensures.valid c.width.ensures.value c.requires.some c.requires.inside c.requires.marks

pub returns-clause-marks : goal.returns-clause-marks
returns-clause-marks c = subst (λ (m : Marked). AreMarks c.args.page.now m) (sym c.new.ensures) (stored_marks c.args.page.now c.width.result c.args.stored c.args.marks.now c.width.ensures.value (omega (arith, c.width.ensures.value, some_width c.args.page.now c.width.ensures.valid)) c.requires.inside c.requires.marks)
