-- make_answers: writes the column answers of these rows, row by row from doubled column 0 on.
use Rattle.std.proofs.Common.{◌∙◌, arith, sym}
use Rattle.std.proofs.lemmas.Nat.{mul-add-lt}
use Rattle.row_values.proofs.AnswerLemmas.{blank}
use Rattle.row_values.specs.Rows.{doubled}
use Rattle.row_values.proofs.answers.make_answers.Goals as goal

pub returns-then-are_blank-clause-answers : goal.returns-then-are_blank-clause-answers
returns-then-are_blank-clause-answers c = record {
  long = c.clear.ensures.len ∙ c.requires.out;
  each = λ k o lk lo. c.clear.ensures.each _ (omega (arith, c.requires.out, mul-add-lt k (doubled c.args.page.now) o c.args.rows.count lk lo)) ∙ sym (blank c.args.page.now c.args.rows c.args.stored c.args.marks.now k o c.requires.marks (c.are_blank.ensures c.if-are_blank.true) c.requires.far_above c.requires.far_under lk lo);
}
