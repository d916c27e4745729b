-- density_law: on a page without an Opaque ink a trapped sample grows by at most TrapColorScaling
-- of what its full tints would add.
use Rattle.page_model.specs.Zones.{zone_of}
use Rattle.trap_color.proofs.DensityLaw.{density_law}
use Rattle.trap_color.proofs.laws.density_law.Goals as goal

pub returns : goal.returns
returns c =
    let z = zone_of c.args.page.now c.args.p in
    density_law c.args.page.now z c.args.p c.args.e c.requires.inks c.requires.trapped (c.full_density_law.ensures.some z c.requires.trapped)
