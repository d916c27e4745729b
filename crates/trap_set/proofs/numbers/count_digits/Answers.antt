-- count_digits: how many digits the text begins with.
use Rattle.std.proofs.Common.{sym, ◌∙◌, arith}
use Rattle.std.specs.Char.{is_ascii_digit}
use Rattle.std.proofs.lemmas.List.Sums.{prefix_len_is}
use Rattle.trap_set.proofs.numbers.count_digits.Goals as goal

pub returns-then-not-is_ascii_digit : goal.returns-then-not-is_ascii_digit
returns-then-not-is_ascii_digit c = sym (prefix_len_is is_ascii_digit c.args.text.now c.loop-place.place 0 (omega arith) c.loop-place.invariant
    (λ _. sym c.is_ascii_digit.ensures.value ∙ c.if-not-is_ascii_digit.true))

pub returns : goal.returns
returns c = sym (prefix_len_is is_ascii_digit c.args.text.now _ 0 (omega arith) (λ k l. c.loop-place.invariant k (omega arith)) (λ l. absurd (omega arith)))
