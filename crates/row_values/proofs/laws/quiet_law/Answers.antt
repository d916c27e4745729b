-- quiet_law: no mark within reach, no new tint.
use Rattle.row_values.proofs.QuietLemmas.{quiet}
use Rattle.row_values.proofs.laws.quiet_law.Goals as goal

pub returns : goal.returns
returns c = λ none. quiet c.args.page.now c.args.p c.plates-valid.ensures.valid none
