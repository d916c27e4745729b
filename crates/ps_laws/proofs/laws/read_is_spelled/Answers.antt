-- read_is_spelled: the tokens that are read are what the bytes spell.
use Rattle.ps_laws.proofs.Reading.{tokens-spelled}
use Rattle.ps_laws.proofs.laws.read_is_spelled.Goals as goal

pub returns : goal.returns
returns c = tokens-spelled
