-- full_new: the new tint of plate c at p, which e traps, where the zone scales tints by 1.
use Rattle.std.proofs.Common.{◌∙◌}
use Rattle.trap_color.proofs.TintLemmas.{full_is_new}
use Rattle.trap_color.proofs.tints.full_new.Goals as goal

pub returns : goal.returns
returns c = c.full_at.ensures ∙ full_is_new c.args.page.now c.args.zone c.args.p c.args.e c.args.c c.requires.trapped c.requires.whole c.full_density_law.ensures.grows (c.full_density_law.ensures.some c.args.zone c.requires.trapped)
