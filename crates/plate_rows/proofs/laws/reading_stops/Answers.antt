-- reading_stops: what is so of a second reading that stops.
use Rattle.plate_rows.proofs.ErrorLemmas.{ends_error, reading_stops, rows_error}
use Rattle.plate_rows.proofs.laws.reading_stops.Goals as goal

pub returns-clause-begun : goal.returns-clause-begun
returns-clause-begun c = reading_stops

pub returns-clause-rows : goal.returns-clause-rows
returns-clause-rows c = rows_error

pub returns-clause-ended : goal.returns-clause-ended
returns-clause-ended c = ends_error
