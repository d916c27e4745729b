-- open_brackets_are_left_open: the brackets that are open after tokens are those that the tokens
-- leave open.
use Rattle.ps_laws.proofs.Opening.{brackets-left, left-brackets}
use Rattle.ps_laws.proofs.laws.open_brackets_are_left_open.Goals as goal

pub returns-clause-left : goal.returns-clause-left
returns-clause-left c = brackets-left

pub returns-clause-found : goal.returns-clause-found
returns-clause-found c = left-brackets
