-- counts_law: what a report counts is a sum over samples.
use Rattle.sheet_geometry.proofs.Areas.{counts_by_samples}
use Rattle.sheet_geometry.proofs.laws.counts_law.Goals as goal

pub returns : goal.returns
returns c = counts_by_samples
