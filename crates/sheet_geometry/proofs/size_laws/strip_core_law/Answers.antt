-- strip_core_law: the rows of a strip's core, trapped in windows of the strip, are rows of the
-- sheet.
use Rattle.sheet_geometry.proofs.CoreLemmas.{core_law}
use Rattle.sheet_geometry.proofs.size_laws.strip_core_law.Goals as goal

pub returns : goal.returns
returns c = λ halo rule sheet across down at row local enough ok near are is. core_law halo sheet across down at row ok near are is rule local enough
