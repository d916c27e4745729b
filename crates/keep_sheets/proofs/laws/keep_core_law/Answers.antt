-- keep_core_law: the core of a window is as on the sheet.
use Rattle.keep_sheets.proofs.CoreLemmas.{core_law}
use Rattle.keep_sheets.proofs.laws.keep_core_law.Goals as goal

pub returns : goal.returns
returns c = core_law
