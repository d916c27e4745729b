-- last_keys_are_of_the_last_entries: the last keys of a dictionary are those of the last entries of
-- its names.
use Rattle.ps_tokens.proofs.Ascending.{ascend-last_keys}
use Rattle.ps_laws.proofs.LastEntries.{last-key, key-last, name-of-key, key-of-name}
use Rattle.ps_laws.proofs.laws.last_keys_are_of_the_last_entries.Goals as goal

pub returns-clause-last : goal.returns-clause-last
returns-clause-last c = last-key

pub returns-clause-all : goal.returns-clause-all
returns-clause-all c = key-last

pub returns-clause-names : goal.returns-clause-names
returns-clause-names c = name-of-key

pub returns-clause-no_others : goal.returns-clause-no_others
returns-clause-no_others c = key-of-name

pub returns-clause-ascending : goal.returns-clause-ascending
returns-clause-ascending c = ascend-last_keys
