-- strip_rows_law: planes that hold the rows of a strip are those of the strip as a sheet.
use Rattle.sheet_geometry.proofs.CoreStripLemmas.{planes_are}
use Rattle.sheet_geometry.proofs.size_laws.strip_rows_law.Goals as goal

pub returns : goal.returns
returns c = λ sheet row planes is inside hold. planes_are sheet row is inside planes hold
