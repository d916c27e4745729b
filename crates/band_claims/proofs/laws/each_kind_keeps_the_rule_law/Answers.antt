-- each_kind_keeps_the_rule_law: whatever kind of step a seat makes, the rule holds after it where
-- it held before.
use Rattle.band_claims.proofs.Steps.{each_keeps}
use Rattle.band_claims.proofs.laws.each_kind_keeps_the_rule_law.Goals as goal

pub returns : goal.returns
returns c = each_keeps
