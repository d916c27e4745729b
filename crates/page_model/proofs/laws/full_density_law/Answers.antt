-- full_density_law: a sample's full tints are at least as dense as its tints, and those of a
-- trapped sample have a density above 0.
use Rattle.page_model.proofs.DensityLemmas.{density-le-full, trapped-pos}
use Rattle.page_model.proofs.laws.full_density_law.Goals as goal

pub returns-clause-grows : goal.returns-clause-grows
returns-clause-grows c = density-le-full c.args.page.now c.args.p c.args.e

pub returns-clause-some : goal.returns-clause-some
returns-clause-some c = λ z t. trapped-pos c.args.page.now z c.args.p c.args.e c.plates-valid.ensures.valid t
