-- samples_left_of: how many samples have their middles left of where the rising segment from a to b
-- crosses the row at height y.
use Rattle.std.proofs.Common.{◌≡◌, ◌∙◌, refl, sym, ap, ◌+◌, ◌*◌, arith}
use Rattle.std.specs.Prelude.{nat_abs, ◌-ℤ◌, ℤ}
use Rattle.std.proofs.lemmas.Grind.{common_steps}
use Rattle.zone_map.specs.PagePoints.{point}
use Rattle.zone_map.proofs.Leans.{left-none, left-below, rise_is, none_at, rising_parts}
use Rattle.zone_map.proofs.Widths.{near_64, near_128}
use Rattle.zone_map.proofs.crossings.samples_left_of.Goals as goal

pub returns-then-across-lt0-clause-left : goal.returns-then-across-lt0-clause-left
returns-then-across-lt0-clause-left c = λ x _.
    let a = point c.args.a in
    let b = point c.args.b in
    let e = near_128 c.across_of-across.result c.across_of-across.ensures.bound in
    let value = c.across_of-across.ensures.value ∙ rw (near_64 c.args.y c.requires.y) refl in
    let below = rw e at c.if-across-lt0.true in
    none_at x ∙ sym (left-none a b c.args.y c.across_of-across.result ((2 * x + 1) * 360000) (nat_abs (b.py -ℤ a.py)) value (rise_is a.py b.py c.requires.rising) below)

pub returns-else-across-lt0-clause-left : goal.returns-else-across-lt0-clause-left
returns-else-across-lt0-clause-left c = λ x l.
    let a = point c.args.a in
    let b = point c.args.b in
    let e = near_128 c.across_of-across.result c.across_of-across.ensures.bound in
    let value = c.across_of-across.ensures.value ∙ rw (near_64 c.args.y c.requires.y) refl in
    let below = rw e at c.if-across-lt0.false in
    let rise : c.unsigned_abs-rise.result ≡ nat_abs (b.py -ℤ a.py) = c.unsigned_abs-rise.ensures.value ∙ ap (λ (z : ℤ). nat_abs z) (rising_parts c.difference.result a.py b.py c.requires.a.y_near c.requires.b.y_near c.difference.ensures.value) in
    let across : c.unsigned_abs.result ≡ nat_abs c.across_of-across.result = c.unsigned_abs.ensures.value ∙ ap (λ (z : ℤ). nat_abs z) e in
    c.samples_below.ensures.left x l ∙ rw (rise, across) (sym (left-below a b c.args.y c.across_of-across.result ((2 * x + 1) * 360000) (nat_abs (b.py -ℤ a.py)) value (rise_is a.py b.py c.requires.rising) below))

pub samples_below-requires-clause-rises : goal.samples_below-requires-clause-rises
samples_below-requires-clause-rises c = grind (arith, common_steps)

pub samples_below-requires-clause-across : goal.samples_below-requires-clause-across
samples_below-requires-clause-across c = grind (arith, common_steps)

pub samples_below-requires-clause-rise : goal.samples_below-requires-clause-rise
samples_below-requires-clause-rise c = grind (arith, common_steps)
