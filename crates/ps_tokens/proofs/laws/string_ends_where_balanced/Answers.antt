-- string_ends_where_balanced: a string ends with the first parenthesis before which everything is
-- balanced, and nowhere else.
use Rattle.ps_tokens.proofs.Balancing.{balanced_text, text_balanced}
use Rattle.ps_tokens.proofs.laws.string_ends_where_balanced.Goals as goal

pub returns-clause-read : goal.returns-clause-read
returns-clause-read c = balanced_text

pub returns-clause-balanced : goal.returns-clause-balanced
returns-clause-balanced c = text_balanced
