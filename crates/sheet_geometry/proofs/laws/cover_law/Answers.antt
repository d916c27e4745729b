-- cover_law: what is counted in disjoint areas that cover a sheet adds up to the sheet's counts.
use Rattle.sheet_geometry.proofs.Covers.{cover_law}
use Rattle.sheet_geometry.proofs.laws.cover_law.Goals as goal

pub returns : goal.returns
returns c = cover_law
