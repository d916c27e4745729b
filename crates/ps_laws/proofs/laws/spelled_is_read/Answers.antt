-- spelled_is_read: the tokens that bytes spell are read.
use Rattle.ps_laws.proofs.Reading.{spelled-tokens}
use Rattle.ps_laws.proofs.laws.spelled_is_read.Goals as goal

pub returns : goal.returns
returns c = spelled-tokens
