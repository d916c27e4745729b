-- is_quiet: whether no column of row y has an answer.
use Rattle.std.proofs.lemmas.Grind.{common_steps}
use Rattle.std.proofs.Common.{arith}
use Rattle.row_values.proofs.QuietLemmas.{quiet_row}
use Rattle.row_values.proofs.quiet.is_quiet.Goals as goal

pub returns-clause-only : goal.returns-clause-only
returns-clause-only c = λ t x l. quiet_row c.args.page.now c.args.y c.args.codes.now c.plates-valid.ensures.valid c.requires.codes (λ k below. c.are_zero.ensures.only t k (omega arith) below) x

pub returns-clause-always : goal.returns-clause-always
returns-clause-always c = grind (arith, common_steps)
