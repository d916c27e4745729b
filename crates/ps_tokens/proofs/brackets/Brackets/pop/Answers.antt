-- Brackets::pop: closes the innermost bracket.
use Rattle.std.proofs.Common.{sym, ap, ◌∙◌, drop}
use Rattle.std.proofs.lemmas.List.{drop-drop}
use Rattle.ps_tokens.proofs.brackets.Brackets.pop.Goals as goal

pub returns : goal.returns
returns c = sym (drop-drop 1 c.self.inside.start c.self.inside.items) ∙ ap (drop 1) c.self.view_is
