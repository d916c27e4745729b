-- span_from_end: where they are counted from its last one, the window ends before one.
use Rattle.std.proofs.lemmas.Grind.{common_steps}
use Rattle.std.proofs.Common.{arith}
use Rattle.sheet_geometry.proofs.SpanLemmas.{window_from_end}
use Rattle.sheet_geometry.proofs.spans.span_from_end.Goals as goal

pub span_of-requires-clause-window : goal.span_of-requires-clause-window
span_of-requires-clause-window c = window_from_end c.args.ruler.now c.args.at c.saturating_sub-from.result c.saturating_sub.result c.div_ceil.result c.requires.ruler c.requires.inside c.requires.way c.saturating_sub-from.ensures c.saturating_sub.ensures c.div_ceil.ensures

pub overflow_mul-after : goal.overflow_mul-after
overflow_mul-after c = grind (arith, common_steps)

pub overflow_sub-rest-2 : goal.overflow_sub-rest-2
overflow_sub-rest-2 c = grind (arith, common_steps)

pub returns : goal.returns
returns c = grind (arith, common_steps)
