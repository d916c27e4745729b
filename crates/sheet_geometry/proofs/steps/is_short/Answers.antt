-- is_short: whether the step at a resolution is at most 2,048 samples.
use Rattle.sheet_geometry.proofs.StepLemmas.{short-is}
use Rattle.sheet_geometry.proofs.steps.is_short.Goals as goal

pub returns : goal.returns
returns c = short-is c.args.resolution c.step_of.result c.step_of.ensures.some c.step_of.ensures.exact c.step_of.ensures.least
