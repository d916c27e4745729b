-- progress_after: how far it has been read once the strip of these rows is.
use Rattle.sheet_stream.proofs.GoingLemmas.{goes_on}
use Rattle.sheet_stream.proofs.rows.progress_after.Goals as goal

pub returns-clause-is : goal.returns-clause-is
returns-clause-is c = goes_on c.args.down.now c.args.row.now c.requires
