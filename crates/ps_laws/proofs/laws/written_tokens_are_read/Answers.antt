-- written_tokens_are_read: tokens of the kinds that nested objects are written with, with their
-- offsets and meanings, are read as these objects.
use Rattle.ps_laws.proofs.Nesting.{nested-read}
use Rattle.ps_laws.proofs.laws.written_tokens_are_read.Goals as goal

pub returns : goal.returns
returns c = nested-read
