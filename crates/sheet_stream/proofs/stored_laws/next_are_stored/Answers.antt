-- next_are_held: rows that are kept, and rows that are read behind them, are held for the next
-- strip; and all rows of the first strip are read.
use Rattle.sheet_stream.proofs.HoldLemmas.{next_stored, none_stored}
use Rattle.sheet_stream.proofs.stored_laws.next_are_stored.Goals as goal

pub returns-clause-first : goal.returns-clause-first
returns-clause-first c = none_stored

pub returns-clause-next : goal.returns-clause-next
returns-clause-next c = next_stored
