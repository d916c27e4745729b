-- locality_law: what a new tint can be.
use Rattle.underprint.proofs.UnderLemmas.{local}
use Rattle.underprint.proofs.laws.locality_law.Goals as goal

pub returns : goal.returns
returns c = λ whites plate p. local c.drawn_law.ensures c.args.page.now whites plate p
