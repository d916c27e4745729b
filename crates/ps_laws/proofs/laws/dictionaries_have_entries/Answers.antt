-- dictionaries_have_entries: each dictionary among nested objects has entries, which are the
-- objects within it.
use Rattle.ps_laws.proofs.Finding.{has-entries}
use Rattle.ps_laws.proofs.laws.dictionaries_have_entries.Goals as goal

pub returns : goal.returns
returns c = has-entries
