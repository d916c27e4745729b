-- value_of: the number that these digits write.
use Rattle.std.proofs.Common.{arith}
use Rattle.std.proofs.lemmas.Int.Digits.{digits_value_more}
use Rattle.trap_set.proofs.NumberLemmas.{digit_range, digit_worth, prefix_short}
use Rattle.trap_set.proofs.numbers.value_of.Goals as goal

pub overflow_mul-value : goal.overflow_mul-value
overflow_mul-value c =
    let below = prefix_short c.args.digits.now c.loop-digit.digit-index c.requires.digits (omega arith) c.requires.few in
    omega (arith, below, c.loop-digit.invariant)

pub overflow_add-value : goal.overflow_add-value
overflow_add-value c =
    let below = prefix_short c.args.digits.now c.loop-digit.digit-index c.requires.digits (omega arith) c.requires.few in
    let range = digit_range c.args.digits.now c.loop-digit.digit-index c.requires.digits (omega arith) in
    omega (arith, below, c.loop-digit.invariant, range.1, c.from.ensures)

pub loop-digit-preserved : goal.loop-digit-preserved
loop-digit-preserved c =
    let range = digit_range c.args.digits.now c.loop-digit.digit-index c.requires.digits (omega arith) in
    let worth = digit_worth c.args.digits.now c.loop-digit.digit-index c.requires.digits (omega arith) in
    let more = digits_value_more 10 c.args.digits.now c.loop-digit.digit-index (omega arith) in
    omega (arith, more, worth, range.0, c.loop-digit.invariant, c.from.ensures)
