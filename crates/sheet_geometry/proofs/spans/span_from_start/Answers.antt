-- span_from_start: where steps are counted from the side's first sample, the window begins at one.
use Rattle.std.proofs.lemmas.Grind.{common_steps}
use Rattle.std.proofs.Common.{arith, refl, ◌/◌, ◌*◌}
use Rattle.sheet_geometry.proofs.SpanLemmas.{window_from_start}
use Rattle.sheet_geometry.proofs.spans.span_from_start.Goals as goal

pub span_of-requires-clause-window : goal.span_of-requires-clause-window
span_of-requires-clause-window c = window_from_start c.args.ruler.now c.args.at c.saturating_sub.result (c.saturating_sub.result / c.args.ruler.now.step * c.args.ruler.now.step) c.min-wide.result c.requires.ruler c.requires.inside c.requires.way c.saturating_sub.ensures refl c.min-wide.ensures

pub returns : goal.returns
returns c = grind (arith, common_steps)
