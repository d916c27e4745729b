-- are_quiet: whether no column has an answer that is within reach of some of so many samples of row
-- y from x on.
use Rattle.std.proofs.Common.{arith}
use Rattle.row_values.proofs.QuietLemmas.{quiet_samples}
use Rattle.row_values.proofs.quiet.are_quiet.Goals as goal

pub are_zero-requires-clause-order : goal.are_zero-requires-clause-order
are_zero-requires-clause-order c = omega (arith, c.saturating_sub-from.ensures, c.min-to.ensures, c.requires.codes.len, c.requires.some, c.requires.inside)

pub returns-clause-only : goal.returns-clause-only
returns-clause-only c = λ t k lo hi. quiet_samples c.args.page.now c.args.y c.args.x c.args.count c.args.reach2 c.saturating_sub-from.result c.min-to.result c.args.codes.now c.plates-valid.ensures.valid c.requires.reach c.requires.codes c.saturating_sub-from.ensures c.min-to.ensures (c.are_zero.ensures.only t) k lo hi
