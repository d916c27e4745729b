-- plain_law: bytes that stand for themselves stay.
use Rattle.escaped_names.proofs.EscapeLemmas.{plain}
use Rattle.escaped_names.proofs.laws.plain_law.Goals as goal

pub returns : goal.returns
returns c = plain c.args.bytes.now
