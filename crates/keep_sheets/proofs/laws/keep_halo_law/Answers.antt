-- keep_halo_law: the least halo is that of the reach.
use Rattle.keep_sheets.proofs.RuleLemmas.{halo_law}
use Rattle.keep_sheets.proofs.laws.keep_halo_law.Goals as goal

pub returns : goal.returns
returns c = halo_law
