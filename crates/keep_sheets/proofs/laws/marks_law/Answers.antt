-- marks_law: the marks are 0 where a pixel is not covered.
use Rattle.keep_sheets.proofs.CoreLemmas.{black_marks, colour_marks}
use Rattle.keep_sheets.proofs.laws.marks_law.Goals as goal

pub returns-clause-black : goal.returns-clause-black
returns-clause-black c = black_marks

pub returns-clause-colour : goal.returns-clause-colour
returns-clause-colour c = colour_marks
