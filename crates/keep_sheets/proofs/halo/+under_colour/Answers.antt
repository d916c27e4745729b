-- under_colour: the least halo of the first underprint and of the others.
use Rattle.std.proofs.Common.{◌-◌, ◌≤◌, length, ap, ◌∙◌, arith}
use Rattle.std.proofs.lemmas.List.Elements.{All-drop, All-take}
use Rattle.std.specs.Prelude.{drop}
use Rattle.underprint.specs.declared.parts.White.{White}
use Rattle.underprint.specs.Underprint.{followed}
use Rattle.keep_sheets.proofs.halo.+under_colour.Goals as goal

pub returns-in-len1-up-clause-least : goal.returns-in-len1-up-clause-least
returns-in-len1-up-clause-least t c = λ n some all.
    let whites = c.args.whites.now in
    let low = c.under_colour.ensures.least n some (All-take (λ (white : White). followed white.width c.args.resolution ≤ n) (length whites - 1) (drop 1 whites) (All-drop (λ (white : White). followed white.width c.args.resolution ≤ n) 1 whites all)) in
    let first = c.followed.ensures.value ∙ ap (λ (white : White). followed white.width c.args.resolution) c.first-item.is in
    let most = all 0 c.first-item.result (omega (arith, c.in-len1-up.len_at_least)) in
    omega (arith, low, first, most, c.max.ensures)
