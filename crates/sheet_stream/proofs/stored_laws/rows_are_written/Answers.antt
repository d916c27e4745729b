-- rows_are_written: the rows of new tints that are written are one more with each row of every
-- plate; and what is written of a plate by then is a prefix of it.
use Rattle.sheet_stream.proofs.WriteLemmas.{part_stands, row_written}
use Rattle.sheet_stream.proofs.stored_laws.rows_are_written.Goals as goal

pub returns-clause-grow : goal.returns-clause-grow
returns-clause-grow c = row_written

pub returns-clause-part : goal.returns-clause-part
returns-clause-part c = part_stands
