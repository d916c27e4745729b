-- need_is_less_law: each need has a lesser number.
use Rattle.band_core.proofs.NeedLemmas.{need_less}
use Rattle.band_core.proofs.need_laws.need_is_less_law.Goals as goal

pub returns : goal.returns
returns c = λ bands is i n t. need_less bands i n is t
