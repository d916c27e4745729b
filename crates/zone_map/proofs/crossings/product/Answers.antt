-- product: the product of two lengths on the page.
use Rattle.std.proofs.Common.{arith}
use Rattle.std.specs.Int.{w128}
use Rattle.std.proofs.lemmas.Int.{to_z-of_z, fits_signed_mul}
use Rattle.zone_map.proofs.Widths.{widened, product_at_most}
use Rattle.zone_map.proofs.crossings.product.Goals as goal

pub overflow_mul-result : goal.overflow_mul-result
overflow_mul-result c = rw (widened _ _ c.ranges.one c.from.ensures, widened _ _ c.ranges.two c.from-2.ensures) (fits_signed_mul w128 c.args.one c.args.two 200000000000000 200000000000000 c.requires.one c.requires.two (omega arith))

pub returns-clause-value : goal.returns-clause-value
returns-clause-value c = rw (widened _ _ c.ranges.one c.from.ensures, widened _ _ c.ranges.two c.from-2.ensures) (to_z-of_z w128 _ (fits_signed_mul w128 c.args.one c.args.two 200000000000000 200000000000000 c.requires.one c.requires.two (omega arith)))

pub returns-clause-bound : goal.returns-clause-bound
returns-clause-bound c = rw (returns-clause-value c) (product_at_most c.args.one c.args.two 200000000000000 c.requires.one c.requires.two)
