-- place_moves_offsets_alone: where the tokens stand changes nothing but their offsets.
use Rattle.ps_tokens.proofs.Moving.{tokens_from-further_on}
use Rattle.ps_tokens.proofs.laws.place_moves_offsets_alone.Goals as goal

pub returns : goal.returns
returns c = tokens_from-further_on
