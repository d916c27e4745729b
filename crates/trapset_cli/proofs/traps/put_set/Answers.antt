-- put_set: traps the page, and writes the set of what changed.
use Rattle.std.proofs.Common.{List, sym, subst}
use Rattle.page_model.specs.declared.parts.Plane.{Plane}
use Rattle.trap_set.specs.Runs.{ArePair}
use Rattle.trapset_cli.proofs.PlanesInRange.{page_pair}
use Rattle.trapset_cli.proofs.TrapsLemmas.{not_trapped, set_not_put, set_put}
use Rattle.trapset_cli.proofs.traps.put_set.Goals as goal

pub returns-in_default : goal.returns-in_default
returns-in_default g c = not_trapped c.args.name.now c.args.page.now (g.R.Rack.state c.args.rack.now) c.plates-valid.ensures.valid

pub write_set-requires : goal.write_set-requires
write_set-requires g c =
    let pair = page_pair c.args.page.now c.plates-valid.ensures.valid c.page_planes_law.ensures.before c.page_planes_law.ensures.after in
    subst (λ (old : List Plane). ArePair old c.in-Ok.trapped.planes) (sym c.planes.ensures.value) (subst (λ (new : List Plane). ArePair c.args.page.now.planes new) (sym c.in-Ok.ensures.planes) pair)

pub returns-in-Ok-write_set : goal.returns-in-Ok-write_set
returns-in-Ok-write_set g c = set_put c.args.name.now c.args.page.now c.planes.result.now c.in-Ok.trapped.planes (g.R.Rack.state c.args.rack.now) (g.R.Rack.state c.write_set.new.rack) c.plates-valid.ensures.valid c.planes.ensures.value c.in-Ok.ensures.planes c.in-Ok-write_set.field-0 c.in-Ok-write_set.ensures

pub returns : goal.returns
returns g c = set_not_put c.args.name.now c.args.page.now c.planes.result.now c.in-Ok.trapped.planes (g.R.Rack.state c.args.rack.now) (g.R.Rack.state c.write_set.new.rack) c.plates-valid.ensures.valid c.planes.ensures.value c.in-Ok.ensures.planes c.in-Err.field-0 c.in-Err.ensures
