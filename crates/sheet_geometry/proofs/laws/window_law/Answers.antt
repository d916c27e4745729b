-- window_law: a window of a sheet has the sheet's tints, zones, deciding edges and marks.
use Rattle.sheet_geometry.proofs.Windows.{window_law}
use Rattle.sheet_geometry.proofs.laws.window_law.Goals as goal

pub returns : goal.returns
returns c = window_law
