-- take_digits: the number that the text begins with, and what stands after it.
use Rattle.std.proofs.lemmas.Grind.{common_steps}
use Rattle.std.proofs.Common.{arith, ◌-◌, sym, subst, take, drop, length}
use Rattle.std.specs.Str.Parse.{digits_value}
use Rattle.std.proofs.lemmas.Bool.{both_ways}
use Rattle.std.proofs.lemmas.List.{take_rest}
use Rattle.trap_set.proofs.NumberLemmas.{counted, counted_digits, begins_digits, plain_prefix}
use Rattle.trap_set.specs.Numbers.{BeginsDigits, IsPlain}
use Rattle.trap_set.proofs.numbers.take_digits.Goals as goal

pub is_plain-requires : goal.is_plain-requires
is_plain-requires c = counted c.args.text.now _ c.count_digits-count.ensures

pub value_of-requires-clause-digits : goal.value_of-requires-clause-digits
value_of-requires-clause-digits c = counted_digits c.args.text.now c.count_digits-count.result c.count_digits-count.ensures

pub returns-then-not-is_plain-clause-none : goal.returns-then-not-is_plain-clause-none
returns-then-not-is_plain-clause-none c n rest h =
    let plain = subst (IsPlain c.args.text.now) (sym c.count_digits-count.ensures) (plain_prefix c.args.text.now n rest h) in
    both_ways _ c.if-not-is_plain.true (c.is_plain.ensures.1 plain)

pub returns-clause-some : goal.returns-clause-some
returns-clause-some c =
    let text = c.args.text.now in
    let count = c.count_digits-count.result in
    let plain = c.is_plain.ensures.0 c.if-not-is_plain.false in
    let begins = begins_digits text count c.count_digits-count.ensures plain in
    subst (λ n. BeginsDigits text n (take (length text - count) (drop count text))) (sym c.value_of.ensures) (subst (BeginsDigits text (digits_value 10 (take count text))) (sym (take_rest text count)) begins)

pub value_of-requires-clause-few : goal.value_of-requires-clause-few
value_of-requires-clause-few c = grind (arith, common_steps)

pub slice_bounds-result-count : goal.slice_bounds-result-count
slice_bounds-result-count c = grind (arith, common_steps)

pub slice_bounds-result-start : goal.slice_bounds-result-start
slice_bounds-result-start c = grind (arith, common_steps)

pub slice_bounds-value_of-end : goal.slice_bounds-value_of-end
slice_bounds-value_of-end c = grind (arith, common_steps)
