-- input_names: the names of the colorants, of words NAME:IN.
use Rattle.std.proofs.Common.{◌≡◌, ℕ, List, IfOk, map, sym, subst}
use Rattle.std.proofs.lemmas.Simd.{map-map}
use Rattle.plain_words.specs.Parts.{InputNames, input_of}
use Rattle.plain_words.proofs.files.input_names.Goals as goal

pub returns : goal.returns
returns g c = subst (λ (named : List (List ℕ)). IfOk c.first_names.result (λ names. names ≡ named)) (sym (map-map (λ (p : InputNames). p.name) input_of (map g.S.AsStr.text c.args.words.now))) c.first_names.ensures
