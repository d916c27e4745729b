-- add_at: counts one crossing with n samples left of it.
use Rattle.std.proofs.lemmas.Grind.{common_steps}
use Rattle.std.proofs.Common.{arith}
use Rattle.zone_map.proofs.TallyLemmas.{past-more}
use Rattle.zone_map.proofs.tally.add_at.Goals as goal

pub returns-clause-past : goal.returns-clause-past
returns-clause-past c = λ x. past-more c.args.counts.now c.args.n x c.requires.place

pub overflow_add-counts : goal.overflow_add-counts
overflow_add-counts c = grind (arith, common_steps)
