-- strips_are_read: the rows of the first strip are read, and after the rows of a strip those of the
-- next one, and held.
use Rattle.sheet_stream.proofs.RowReadLemmas.{first_read, next_read}
use Rattle.sheet_stream.proofs.stored_laws.strips_are_read.Goals as goal

pub returns-clause-first : goal.returns-clause-first
returns-clause-first c = first_read

pub returns-clause-next : goal.returns-clause-next
returns-clause-next c = next_read
