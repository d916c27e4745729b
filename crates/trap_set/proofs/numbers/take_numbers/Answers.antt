-- take_numbers: puts the numbers that the text begins with into the list, as many as it has places,
-- and gives what stands after them.
use Rattle.std.proofs.Common.{arith}
use Rattle.std.proofs.lemmas.List.{length-set}
use Rattle.trap_set.proofs.NumberLemmas.{numbers_on, below_on, meant_on, no_first}
use Rattle.trap_set.proofs.numbers.take_numbers.Goals as goal

pub returns-in-None-clause-none : goal.returns-in-None-clause-none
returns-in-None-clause-none c meant rest as_many h =
    no_first c.loop-place.rest.now c.loop-place.place meant rest (omega (arith, as_many)) c.in-None.ensures.none
    (c.loop-place.invariant.goes_on meant rest (omega (arith, as_many)) h)

pub loop-place-preserved : goal.loop-place-preserved
loop-place-preserved c = record {
  whole = numbers_on c.args.text.now c.loop-place.numbers c.loop-place.rest.now c.loop-place.place c.in-Some.number c.in-Some.more.now (omega arith) c.loop-place.invariant.whole c.in-Some.ensures.some;
  below = below_on c.loop-place.numbers c.loop-place.place c.in-Some.number (omega arith) c.loop-place.invariant.below (c.in-Some.ensures.some.below 0 0 (omega arith));
  ends = λ _. c.in-Some.ensures.some.ends;
  goes_on = λ meant rest as_many h. meant_on c.args.text.now c.loop-place.rest.now c.in-Some.number c.loop-place.place c.in-Some.more.now meant rest (omega (arith, as_many, length-set c.loop-place.numbers c.loop-place.place c.in-Some.number)) c.in-Some.ensures.some
      (c.loop-place.invariant.goes_on meant rest (omega (arith, as_many, length-set c.loop-place.numbers c.loop-place.place c.in-Some.number)) h);
}
