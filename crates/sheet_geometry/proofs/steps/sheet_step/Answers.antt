-- sheet_step: the step of a sheet in samples, the least one.
use Rattle.std.proofs.Common.{arith}
use Rattle.sheet_geometry.proofs.StepLemmas.{step_short}
use Rattle.sheet_geometry.proofs.steps.sheet_step.Goals as goal

pub returns-then-len-gt1-clause-short : goal.returns-then-len-gt1-clause-short
returns-then-len-gt1-clause-short c = step_short c.args.sheet.now c.step_of.result c.requires.cut (let a = c.if-len-gt1.true in let b = c.len.ensures in omega (arith, a, b)) c.step_of.ensures.least
