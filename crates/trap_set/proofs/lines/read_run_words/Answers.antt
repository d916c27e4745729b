-- read_run_words: reads the numbers of a run's line, in range or not.
use Rattle.std.proofs.lemmas.Grind.{common_steps}
use Rattle.std.proofs.Common.{arith}
use Rattle.std.proofs.lemmas.Bool.{both_ways}
use Rattle.trap_set.proofs.LineLemmas.{numbers_of, run_there, same_numbers}
use Rattle.trap_set.proofs.lines.read_run_words.Goals as goal

pub returns-in_default-take_numbers-clause-none : goal.returns-in_default-take_numbers-clause-none
returns-in_default-take_numbers-clause-none c f run short is =
    c.in_default-take_numbers.ensures.none (numbers_of run) _ (omega (arith, short.as_many)) (run_there _ run c.args.line.now c.in-Some.text.now short is c.in-Some.ensures.some)

pub returns-clause-none : goal.returns-clause-none
returns-clause-none c f run short is =
    let there = run_there _ run c.args.line.now c.in-Some.text.now short is c.in-Some.ensures.some in
    let same = same_numbers c.take_numbers.new.numbers (numbers_of run) c.in-Some.text.now c.in-Some-take_numbers.end.now _ (omega (arith, short.as_many)) c.in-Some-take_numbers.ensures.some there in
    both_ways _ f (c.is_line_end.ensures.1 same.1)

pub returns-clause-line : goal.returns-clause-line
returns-clause-line c = grind (arith, common_steps)
