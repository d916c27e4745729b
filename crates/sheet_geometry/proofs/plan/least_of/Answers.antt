-- What `least_of` has to show.
use Rattle.std.proofs.Common.{length}
use Rattle.lists.specs.Words.{first_some}
use Rattle.lists.proofs.FirstSome.{both_none}
use Rattle.sheet_geometry.specs.CommonErrors.{far, uncut}
use Rattle.sheet_geometry.proofs.plan.least_of.Goals as goal

pub least_by-requires-clause-cut : goal.least_by-requires-clause-cut
least_by-requires-clause-cut c = (both_none (first_some (far c.args.sheet.now) (length c.args.sheet.now.zones)) (uncut c.args.sheet.now) c.requires.cut).1
