-- with_report: the planes of a trapped sheet, with the report of what changed.
use Rattle.std.proofs.Common.{◌∙◌}
use Rattle.sheet_files.proofs.OutcomeLemmas.{planes_are}
use Rattle.sheet_files.proofs.outcome.with_report.Goals as goal

pub returns-clause-planes : goal.returns-clause-planes
returns-clause-planes c = c.in_ok-planes.ensures ∙ planes_are c.args.sheet.now c.args.trapped.tints c.requires.count c.requires.tints
