-- find_lower: finds which of so many samples of row y, from x on, have a deciding edge below them.
use Rattle.std.proofs.Common.{◌∙◌}
use Rattle.edge_rule.proofs.PairLemmas.{lower-plain}
use Rattle.edge_rule.proofs.plain.find_lower.Goals as goal

pub returns-clause-each : goal.returns-clause-each
returns-clause-each c = λ k l. c.decide_pairs.ensures.each k l ∙ lower-plain c.args.page.now c.args.y c.args.x _ c.args.zone k c.requires.lie l
