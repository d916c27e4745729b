-- no_change: a plate whose file the tray tells does not change between two readings.
use Rattle.plate_rows.proofs.ErrorLemmas.{no_change}
use Rattle.plate_rows.proofs.laws.no_change.Goals as goal

pub returns : goal.returns
returns c = no_change c.file_fault_within.ensures c.not_both_within.ensures c.top_of_file_within.ensures
