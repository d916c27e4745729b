-- space_moves_offsets_alone: a whitespace byte more before what is left changes nothing but the
-- offsets after it.
use Rattle.ps_tokens.proofs.Moving.{space-further_on}
use Rattle.ps_tokens.proofs.laws.space_moves_offsets_alone.Goals as goal

pub returns : goal.returns
returns c = space-further_on
