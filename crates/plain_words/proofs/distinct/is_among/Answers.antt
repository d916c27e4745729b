-- is_among: whether the text is one of these.
use Rattle.std.proofs.Common.{map, ap, ◌∙◌}
use Rattle.std.proofs.lemmas.List.{map-id}
use Rattle.std.specs.List.{list_any}
use Rattle.std.specs.Str.{bytes_eq}
use Rattle.plain_words.proofs.distinct.is_among.Goals as goal

pub returns : goal.returns
returns g c = c.has_part.ensures ∙ ap (list_any (bytes_eq c.args.text.now)) (map-id (map g.S.AsStr.text c.args.texts.now))
