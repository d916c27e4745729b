-- full_law: with a tint for each of its samples, a bare sheet is a sheet.
use Rattle.sheet_geometry.proofs.OutlineLemmas.{full_is}
use Rattle.sheet_geometry.proofs.size_laws.full_law.Goals as goal

pub returns : goal.returns
returns c = λ sheet is full. full_is sheet is full
