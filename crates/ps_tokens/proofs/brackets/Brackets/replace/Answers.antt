-- Brackets::replace: puts another bracket in the innermost one's place.
use Rattle.std.proofs.lemmas.Grind.{common_steps}
use Rattle.std.proofs.Common.{◌<◌, ◌∷◌, length, sym, ap, ◌∙◌, drop, arith, length-drop}
use Rattle.std.proofs.lemmas.List.{drop-drop, drop-set}
use Rattle.ps_tokens.proofs.brackets.Brackets.replace.Goals as goal

pub returns : goal.returns
returns c =
    let start = c.self.inside.start in
    let items = c.self.inside.items in
    let within : start < length items = omega (arith, length-drop start items, ap length c.self.view_is) in
    drop-set items start c.args.bracket within ∙ ap (λ rest. c.args.bracket ∷ rest) (sym (drop-drop 1 start items) ∙ ap (drop 1) c.self.view_is)

pub bounds-self-inside-self-inside : goal.bounds-self-inside-self-inside
bounds-self-inside-self-inside c = grind (arith, common_steps)
