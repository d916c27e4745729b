-- cuttable_law: a sheet that no fault keeps from being cut may be cut.
use Rattle.sheet_geometry.proofs.OutlineLemmas.{cuttable_is}
use Rattle.sheet_geometry.proofs.size_laws.cuttable_law.Goals as goal

pub returns : goal.returns
returns c = λ sheet is cut narrow low. cuttable_is sheet is cut narrow low
