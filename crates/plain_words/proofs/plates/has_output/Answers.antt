-- has_output: whether some plate is written into that file.
use Rattle.std.proofs.Common.{map, sym, ap, ◌∙◌}
use Rattle.std.proofs.lemmas.Simd.{map-map}
use Rattle.std.specs.List.{list_any}
use Rattle.std.specs.Str.{bytes_eq}
use Rattle.plain_words.specs.Parts.{PlateNames, parts_of}
use Rattle.plain_words.proofs.plates.has_output.Goals as goal

pub returns : goal.returns
returns g c = c.has_part.ensures ∙ ap (list_any (bytes_eq c.args.file.now)) (sym (map-map (λ (p : PlateNames). p.output) parts_of (map g.S.AsStr.text c.args.words.now)))
