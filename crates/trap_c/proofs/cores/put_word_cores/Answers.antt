-- Goals of put_word_cores that want a lemma by name.
use Rattle.std.proofs.Common.{◌∙◌, ap}
use Rattle.page_model.specs.declared.parts.Plane.{Plane}
use Rattle.trap_c.proofs.Runs.{core_put, no_core_put, plane_is}
use Rattle.trap_c.proofs.cores.put_word_cores.Goals as goal

pub loop-c-init : goal.loop-c-init
loop-c-init c = no_core_put c.args.layout c.args.core.now c.args.planes.now c.args.samples.now

pub loop-c-preserved : goal.loop-c-preserved
loop-c-preserved c =
    let same = plane_is c.args.planes.now c.as_slice-all.result.now c.index-all-c.result c.loop-c.c c.as_slice-all.ensures c.loop-c-test.true in
    core_put c.args.layout c.args.core.now c.args.planes.now c.as_slice.result.now c.args.samples.now c.loop-c.samples c.put_word_core.new.samples c.loop-c.c c.requires.layout c.requires.core (c.as_slice.ensures ∙ ap (λ (p : Plane). p.tints) same) c.put_word_core.ensures c.loop-c.invariant
