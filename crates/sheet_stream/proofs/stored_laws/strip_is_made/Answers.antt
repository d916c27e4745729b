-- strip_is_made: a strip whose planes hold its rows is the sheet's strip.
use Rattle.sheet_stream.proofs.HoldLemmas.{strip_made}
use Rattle.sheet_stream.proofs.stored_laws.strip_is_made.Goals as goal

pub returns : goal.returns
returns c = strip_made
