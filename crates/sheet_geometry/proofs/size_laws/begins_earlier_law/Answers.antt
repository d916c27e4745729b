-- begins_earlier_law: a sheet that begins with some tints begins with the first of them.
use Rattle.sheet_geometry.proofs.BegunLemmas.{begins_earlier}
use Rattle.sheet_geometry.proofs.size_laws.begins_earlier_law.Goals as goal

pub returns : goal.returns
returns c = begins_earlier
