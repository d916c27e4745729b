-- strip_is_put: what is written and counted of a strip's core is written and counted of the sheet;
-- and where that fails, a row of the sheet is not written.
use Rattle.sheet_stream.proofs.OnSheetLemmas.{is_broken, is_counted, is_written}
use Rattle.sheet_stream.proofs.laws.strip_is_put.Goals as goal

pub returns-clause-written : goal.returns-clause-written
returns-clause-written c = is_written

pub returns-clause-counted : goal.returns-clause-counted
returns-clause-counted c = is_counted

pub returns-clause-broken : goal.returns-clause-broken
returns-clause-broken c = is_broken
