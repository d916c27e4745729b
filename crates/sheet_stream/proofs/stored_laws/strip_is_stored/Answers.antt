-- strip_is_held: the rows that are held are those of the strip, of each sheet that begins with what
-- was read.
use Rattle.sheet_stream.proofs.HoldLemmas.{holds_strip}
use Rattle.sheet_stream.proofs.stored_laws.strip_is_stored.Goals as goal

pub returns : goal.returns
returns c = holds_strip
