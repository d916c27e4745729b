-- have_distinct_outputs: whether no file that is written stands there twice.
use Rattle.std.proofs.Common.{map, string_bytes, sym, ap, ◌∙◌}
use Rattle.std.proofs.lemmas.Simd.{map-map}
use Rattle.plain_words.specs.Distinct.{are_distinct}
use Rattle.plain_words.specs.Parts.{CopyNames, copy_of}
use Rattle.trapset_cli.proofs.plates.have_distinct_outputs.Goals as goal

pub returns : goal.returns
returns c = c.have_distinct_parts.ensures ∙ ap are_distinct (sym (map-map (λ (p : CopyNames). p.output) copy_of (map string_bytes c.args.words.now)))
