-- one_token_list: bytes spell one list of tokens at most.
use Rattle.ps_laws.proofs.Reading.{one-list}
use Rattle.ps_laws.proofs.laws.one_token_list.Goals as goal

pub returns : goal.returns
returns c = one-list
