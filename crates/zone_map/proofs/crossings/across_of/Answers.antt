-- across_of: where the segment from a to b stands at height y, times its rise.
use Rattle.std.proofs.lemmas.Grind.{common_steps}
use Rattle.std.proofs.Common.{arith, ◌∙◌}
use Rattle.zone_map.proofs.Widths.{sum_fits, whole_sum_is, same_sum, way_is, near_64}
use Rattle.zone_map.proofs.crossings.across_of.Goals as goal

pub overflow_add-result : goal.overflow_add-result
overflow_add-result c = sum_fits c.product-along.result c.product-aside.result c.product-along.ensures.bound c.product-aside.ensures.bound

pub returns-clause-value : goal.returns-clause-value
returns-clause-value c = whole_sum_is c.product-along.result c.product-aside.result c.product-along.ensures.bound c.product-aside.ensures.bound ∙ same_sum c.product-along.result c.product-aside.result _ _ _ _ _ _ _ _ c.product-along.ensures.value c.product-aside.ensures.value
    (way_is c.difference.result c.args.a.x c.args.b.x c.requires.a.x_near c.requires.b.x_near c.difference.ensures.value)
    (way_is c.difference-2.result c.args.a.y c.args.y c.requires.a.y_near c.requires.y c.difference-2.ensures.value)
    (near_64 c.args.a.x c.requires.a.x_near)
    (way_is c.difference-3.result c.args.a.y c.args.b.y c.requires.a.y_near c.requires.b.y_near c.difference-3.ensures.value)

pub product-aside-requires-clause-two : goal.product-aside-requires-clause-two
product-aside-requires-clause-two c = grind (arith, common_steps)

pub product-aside-requires-clause-one : goal.product-aside-requires-clause-one
product-aside-requires-clause-one c = grind (arith, common_steps)

pub difference-requires-3-clause-to : goal.difference-requires-3-clause-to
difference-requires-3-clause-to c = grind (arith, common_steps)

pub product-along-requires-clause-one : goal.product-along-requires-clause-one
product-along-requires-clause-one c = grind (arith, common_steps)

pub product-along-requires-clause-two : goal.product-along-requires-clause-two
product-along-requires-clause-two c = grind (arith, common_steps)

pub difference-requires-3-clause-from : goal.difference-requires-3-clause-from
difference-requires-3-clause-from c = grind (arith, common_steps)
