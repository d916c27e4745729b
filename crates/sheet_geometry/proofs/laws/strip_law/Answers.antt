-- strip_law: all columns of the rows of a span are a tile of the sheet, and a sheet of their own,
-- which can be cut and trapped in turn.
use Rattle.sheet_geometry.proofs.StripLemmas.{strip_law}
use Rattle.sheet_geometry.proofs.laws.strip_law.Goals as goal

pub returns : goal.returns
returns c = strip_law
