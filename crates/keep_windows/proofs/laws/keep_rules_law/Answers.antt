-- keep_rules_law: keepaway is local.
use Rattle.keep_windows.proofs.RuleLemmas.{black_local, colour_local}
use Rattle.keep_windows.proofs.laws.keep_rules_law.Goals as goal

pub returns-clause-black : goal.returns-clause-black
returns-clause-black c = black_local

pub returns-clause-colour : goal.returns-clause-colour
returns-clause-colour c = colour_local
