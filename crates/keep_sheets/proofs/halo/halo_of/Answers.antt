-- halo_of: the least halo of a use.
use Rattle.std.proofs.Common.{◌≤◌, subst}
use Rattle.std.proofs.lemmas.List.Elements.{All-same}
use Rattle.underprint.specs.declared.parts.White.{White}
use Rattle.underprint.specs.Underprint.{followed}
use Rattle.keep_pages.specs.declared.uses.KeepUse.{KeepUse}
use Rattle.keep_pages.specs.declared.uses.KeepUse.TheVariants.{UnderColour}
use Rattle.keep_sheets.specs.KeepSheets.{IsHalo}
use Rattle.keep_sheets.proofs.halo.halo_of.Goals as goal

pub returns-in-UnderColour-clause-least : goal.returns-in-UnderColour-clause-least
returns-in-UnderColour-clause-least c = λ n enough.
    let halo : IsHalo c.args.resolution (UnderColour c.in-UnderColour.whites) n = subst (λ (used : KeepUse). IsHalo c.args.resolution used n) c.in-UnderColour.is enough in
    c.under_colour.ensures.least n halo.0 (All-same (λ (white : White). followed white.width c.args.resolution ≤ n) c.as_slice.result.now c.in-UnderColour.whites c.as_slice.ensures halo.1)
