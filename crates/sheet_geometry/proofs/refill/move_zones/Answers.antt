-- move_zones: moves zones into the places of zones of their form.
use Rattle.std.proofs.lemmas.Grind.{common_steps}
use Rattle.std.proofs.Common.{◌∙◌, ap, arith, refl, sym}
use Rattle.sheet_geometry.specs.Forms.{zone_form}
use Rattle.sheet_geometry.proofs.FormLemmas.{item_read, zone_each, zones_many}
use Rattle.sheet_geometry.proofs.refill.move_zones.Goals as goal

pub loop-z-init : goal.loop-z-init
loop-z-init c = record {
  count = zones_many c.args.moved.now c.args.zones.now c.requires.form;
  done = refl;
  rest = λ j d _ l. zone_each c.args.moved.now c.args.zones.now j d c.requires.form l;
}

pub move_zone-requires-clause-form : goal.move_zone-requires-clause-form
move_zone-requires-clause-form c =
    let d = c.index-zones-z.result in
    ap zone_form (item_read c.loop-z.moved c.loop-z.z c.item_mut.result.now d c.item_mut.ensures.item) ∙ c.loop-z.invariant.rest c.loop-z.z d (omega arith) (omega (arith, c.loop-z-test.true, c.loop-z.auto.z-end)) ∙ sym (ap zone_form c.index-zones-z.is)

pub loop-z-preserved : goal.loop-z-preserved
loop-z-preserved c = grind (arith, common_steps)
