-- keep_rule_law: keepaway is a local rule.
use Rattle.keep_sheets.proofs.RuleLemmas.{rule_law}
use Rattle.keep_sheets.proofs.laws.keep_rule_law.Goals as goal

pub returns : goal.returns
returns c = rule_law
