-- bare_law: what is judged of a sheet rests on all of it but its tints.
use Rattle.sheet_geometry.proofs.OutlineLemmas.{law_of}
use Rattle.sheet_geometry.proofs.size_laws.outline_law.Goals as goal

pub returns : goal.returns
returns c = λ sheet. law_of sheet
