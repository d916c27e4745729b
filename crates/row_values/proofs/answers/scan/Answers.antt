-- What `scan` has to show.
use Rattle.std.proofs.lemmas.Grind.{common_steps}
use Rattle.std.proofs.Common.{arith, ◌∙◌}
use Rattle.row_values.proofs.AnswerLemmas.{answers_stored, covered}
use Rattle.row_values.proofs.answers.scan.Goals as goal

pub returns-clause-answers : goal.returns-clause-answers
returns-clause-answers g c = answers_stored c.args.page.now c.args.rows c.width.result c.reach2.result c.columns.new.out c.width.ensures.value c.reach2.ensures.value (c.columns.ensures.len ∙ c.requires.out) (c.columns.ensures.answers c.args.page.now c.marks_of-marks.ensures.marks (covered c.args.page.now c.args.rows c.args.stored c.marks_of-marks.result c.reach2.result c.reach2.ensures.value c.marks_of-marks.ensures.top c.marks_of-marks.ensures.rows c.requires.some c.requires.inside c.requires.far_above c.requires.far_under))

pub columns-requires-clause-out : goal.columns-requires-clause-out
columns-requires-clause-out g c = grind (arith, common_steps)
