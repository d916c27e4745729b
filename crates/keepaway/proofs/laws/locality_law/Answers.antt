-- locality_law: what a new tint can be.
use Rattle.keepaway.proofs.KeepLemmas.{local}
use Rattle.keepaway.proofs.laws.locality_law.Goals as goal

pub returns : goal.returns
returns c = λ rich plate p. local c.args.page.now rich plate p (c.drawn_law.ensures _ _ _)
