-- are_distinct: whether no text stands there twice.
use Rattle.std.proofs.Common.{map, ap, ◌∙◌}
use Rattle.std.proofs.lemmas.List.{map-id}
use Rattle.plain_words.specs.Distinct.{are_distinct}
use Rattle.plain_words.proofs.distinct.are_distinct.Goals as goal

pub returns : goal.returns
returns g c = c.have_distinct_parts.ensures ∙ ap are_distinct (map-id (map g.S.AsStr.text c.args.texts.now))
