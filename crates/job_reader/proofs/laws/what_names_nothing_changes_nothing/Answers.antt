-- what_names_nothing_changes_nothing: a dictionary that names none of the keys that its operator
-- knows leaves all in force as it was, and an empty one names no key at all.
use Rattle.job_reader.proofs.NamingNone.{page_device-none, trap_params-none, empty-all-none}
use Rattle.job_reader.proofs.laws.what_names_nothing_changes_nothing.Goals as goal

pub returns-clause-page_device : goal.returns-clause-page_device
returns-clause-page_device c = page_device-none

pub returns-clause-trap_params : goal.returns-clause-trap_params
returns-clause-trap_params c = trap_params-none

pub returns-clause-empty : goal.returns-clause-empty
returns-clause-empty c = empty-all-none
