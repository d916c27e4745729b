-- some_sheet_law: for each bare sheet there is a sheet, whatever its planes begin with.
use Rattle.sheet_geometry.proofs.BegunLemmas.{some_sheet}
use Rattle.sheet_geometry.proofs.size_laws.some_sheet_law.Goals as goal

pub returns : goal.returns
returns c = λ outline tints is blank may. some_sheet outline tints is blank may
