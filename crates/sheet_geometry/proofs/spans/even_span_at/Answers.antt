-- even_span_at: the span whose core begins at that sample of the side, of a window that has as many
-- samples as each other.
use Rattle.std.proofs.lemmas.Grind.{common_steps}
use Rattle.std.proofs.Common.{arith}
use Rattle.sheet_geometry.proofs.SpanLemmas.{even_window}
use Rattle.sheet_geometry.proofs.spans.even_span_at.Goals as goal

pub span_of-requires-clause-window : goal.span_of-requires-clause-window
span_of-requires-clause-window c = even_window c.args.ruler.now c.args.at c.saturating_sub.result c.min.result c.even_wide_of-wide.result c.requires.ruler c.requires.inside c.saturating_sub.ensures c.even_wide_of-wide.ensures.value c.min.ensures

pub returns-clause-span : goal.returns-clause-span
returns-clause-span c = grind (arith, common_steps)
