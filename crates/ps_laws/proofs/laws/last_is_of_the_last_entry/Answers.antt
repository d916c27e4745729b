-- last_is_of_the_last_entry: what is looked up under a name is the value of the last entry of that
-- name, and nothing where no entry has it.
use Rattle.ps_laws.proofs.LastEntries.{last-found, last-given, last-missing, last-none}
use Rattle.ps_laws.proofs.laws.last_is_of_the_last_entry.Goals as goal

pub returns-clause-found : goal.returns-clause-found
returns-clause-found c = last-found

pub returns-clause-given : goal.returns-clause-given
returns-clause-given c = last-given

pub returns-clause-none_has_it : goal.returns-clause-none_has_it
returns-clause-none_has_it c = last-missing

pub returns-clause-none_is_found : goal.returns-clause-none_is_found
returns-clause-none_is_found c = last-none
