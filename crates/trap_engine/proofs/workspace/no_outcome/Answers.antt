-- no_outcome: an outcome with no row of the page taken in, into which the planes are to be put.
use Rattle.std.proofs.lemmas.Grind.{common_steps}
use Rattle.std.proofs.Common.{◌∙◌, arith, refl}
use Rattle.trap_engine.proofs.TakeLemmas.{tallies_begun}
use Rattle.trap_engine.proofs.workspace.no_outcome.Goals as goal

pub returns : goal.returns
returns c = tallies_begun c.args.page.now _ c.plates.ensures.valid c.zones-zones.ensures.value c.plates-2.ensures.value (c.in_ok-no_planes.ensures ∙ c.plates.ensures.value) c.in_ok-no_counts.ensures c.in_ok-no_counts-2.ensures c.in_ok-no_counts-3.ensures refl (omega (arith, c.in_ok-vec_of.field-0.ok, c.in_ok-vec_of.ensures, c.width.ensures.value))

pub same-result : goal.same-result
same-result c = grind (arith, common_steps)
