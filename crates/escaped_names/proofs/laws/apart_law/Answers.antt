-- apart_law: two different names have different escaped forms.
use Rattle.escaped_names.proofs.EscapeLemmas.{apart}
use Rattle.escaped_names.proofs.laws.apart_law.Goals as goal

pub returns : goal.returns
returns c = apart c.args.one.now c.args.other.now
