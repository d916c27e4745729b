-- scaled: a coordinate of a vertex, in the units of a point.
use Rattle.std.proofs.Common.{arith, w64}
use Rattle.std.specs.Prelude.{pos}
use Rattle.std.proofs.lemmas.Int.{to_z-of_z, fits_signed_mul}
use Rattle.zone_map.proofs.Widths.{near_64, pos_64, scaled_at_most}
use Rattle.zone_map.proofs.crossings.scaled.Goals as goal

pub overflow_mul-result : goal.overflow_mul-result
overflow_mul-result c = rw (near_64 c.args.coordinate (omega arith), pos_64 _ _ c.from.ensures c.requires.resolution) (fits_signed_mul w64 c.args.coordinate (pos c.args.resolution) 10000000000 10000 c.requires.coordinate c.requires.resolution (omega arith))

pub returns-clause-value : goal.returns-clause-value
returns-clause-value c = rw (near_64 c.args.coordinate (omega arith), pos_64 _ _ c.from.ensures c.requires.resolution) (to_z-of_z w64 _ (fits_signed_mul w64 c.args.coordinate (pos c.args.resolution) 10000000000 10000 c.requires.coordinate c.requires.resolution (omega arith)))

pub returns-clause-bound : goal.returns-clause-bound
returns-clause-bound c = rw (returns-clause-value c) (scaled_at_most c.args.coordinate c.args.resolution c.requires.coordinate c.requires.resolution)
