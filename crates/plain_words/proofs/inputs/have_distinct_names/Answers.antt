-- have_distinct_names: whether no plate's name stands there twice.
use Rattle.std.proofs.Common.{map, string_bytes, sym, ap, ◌∙◌}
use Rattle.std.proofs.lemmas.Simd.{map-map}
use Rattle.plain_words.specs.Distinct.{are_distinct}
use Rattle.plain_words.specs.Parts.{InputNames, input_of}
use Rattle.plain_words.proofs.inputs.have_distinct_names.Goals as goal

pub returns : goal.returns
returns c = c.have_distinct_parts.ensures ∙ ap are_distinct (sym (map-map (λ (p : InputNames). p.name) input_of (map string_bytes c.args.words.now)))
