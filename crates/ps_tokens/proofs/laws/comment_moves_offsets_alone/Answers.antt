-- comment_moves_offsets_alone: a comment more, with the line end after it, before what is left
-- changes nothing but the offsets after it.
use Rattle.ps_tokens.proofs.Moving.{comment-further_on}
use Rattle.ps_tokens.proofs.laws.comment_moves_offsets_alone.Goals as goal

pub returns : goal.returns
returns c = comment-further_on
