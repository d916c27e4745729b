-- read_page_words: the numbers of a page line, in range or not.
use Rattle.std.proofs.Common.{refl, ◌≡◌, length, arith}
use Rattle.std.proofs.lemmas.Bool.{both_ways}
use Rattle.trap_set.proofs.LineLemmas.{sides_there, sides_same, count_there, count_same, sides_of, three, page_again}
use Rattle.trap_set.proofs.lines.read_page_words.Goals as goal

pub returns-in_default-take_numbers-clause-none : goal.returns-in_default-take_numbers-clause-none
returns-in_default-take_numbers-clause-none c head short is =
    c.in_default-take_numbers.ensures.none (sides_of head) _ refl (sides_there c.args.line.now head short is c.in-Some.numbers.now c.in-Some.ensures.some)

pub returns-in_default-take_word-clause-none : goal.returns-in_default-take_word-clause-none
returns-in_default-take_word-clause-none c head short is =
    let as_many : length c.take_numbers.new.numbers ≡ 3 = omega arith in
    c.in_default-take_word.ensures.none _ (sides_same c.args.line.now head short is c.in-Some.numbers.now c.take_numbers.new.numbers c.in-Some-take_numbers.words.now c.in-Some.ensures.some as_many c.in-Some-take_numbers.ensures.some).1

pub returns-in_default-take_number-clause-none : goal.returns-in_default-take_number-clause-none
returns-in_default-take_number-clause-none c head short is =
    let as_many : length c.take_numbers.new.numbers ≡ 3 = omega arith in
    c.in_default-take_number.ensures.none _ _ (count_there c.args.line.now head short is c.in-Some.numbers.now c.take_numbers.new.numbers c.in-Some-take_numbers.words.now c.in-Some-take_word.count.now c.in-Some.ensures.some as_many c.in-Some-take_numbers.ensures.some c.in-Some-take_word.ensures.some)

pub returns-then-not-is_line_end-clause-none : goal.returns-then-not-is_line_end-clause-none
returns-then-not-is_line_end-clause-none c head short is =
    let as_many : length c.take_numbers.new.numbers ≡ 3 = omega arith in
    let same = count_same c.args.line.now head short is c.in-Some.numbers.now c.take_numbers.new.numbers c.in-Some-take_numbers.words.now c.in-Some-take_word.count.now c.in-Some-take_number.plates c.in-Some-take_number.end.now c.in-Some.ensures.some as_many c.in-Some-take_numbers.ensures.some c.in-Some-take_word.ensures.some c.in-Some-take_number.ensures.some in
    both_ways _ c.if-not-is_line_end.true (c.is_line_end.ensures.1 same.1)

pub returns-clause-line : goal.returns-clause-line
returns-clause-line c =
    let as_many : length c.take_numbers.new.numbers ≡ 3 = omega arith in
    page_again _ c.args.line.now c.in-Some.numbers.now c.take_numbers.new.numbers c.in-Some-take_numbers.words.now c.in-Some-take_word.count.now c.in-Some-take_number.end.now
    c.in-Some.ensures.some c.in-Some-take_numbers.ensures.some (three c.take_numbers.new.numbers as_many) c.in-Some-take_word.ensures.some c.in-Some-take_number.ensures.some (c.is_line_end.ensures.0 c.if-not-is_line_end.false)
