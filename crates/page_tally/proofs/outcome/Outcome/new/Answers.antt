-- Outcome::new: the outcome with no row of the page taken in.
use Rattle.std.proofs.lemmas.Grind.{common_steps}
use Rattle.std.proofs.Common.{arith, refl}
use Rattle.page_tally.proofs.OutcomeLemmas.{none_taken}
use Rattle.page_tally.proofs.outcome.Outcome.new.Goals as goal

pub returns : goal.returns
returns c = none_taken c.args.page.now _ c.zones-zones.ensures.value c.plates.ensures.value c.in_ok-copies_of.ensures c.in_ok-no_counts.ensures c.in_ok-no_counts-2.ensures c.in_ok-no_counts-3.ensures refl (omega (arith, c.in_ok-vec_of.field-0.ok, c.in_ok-vec_of.ensures, c.width.ensures.value))

pub same-result : goal.same-result
same-result c = grind (arith, common_steps)
