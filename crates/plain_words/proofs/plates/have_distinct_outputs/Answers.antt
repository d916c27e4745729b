-- have_distinct_outputs: whether no file that is written stands there twice.
use Rattle.std.proofs.Common.{map, sym, ap, ◌∙◌}
use Rattle.std.proofs.lemmas.Simd.{map-map}
use Rattle.plain_words.specs.Distinct.{are_distinct}
use Rattle.plain_words.specs.Parts.{PlateNames, parts_of}
use Rattle.plain_words.proofs.plates.have_distinct_outputs.Goals as goal

pub returns : goal.returns
returns g c = c.have_distinct_parts.ensures ∙ ap are_distinct (sym (map-map (λ (p : PlateNames). p.output) parts_of (map g.S.AsStr.text c.args.words.now)))
