-- plate_names: the names of the colorants, of words NAME:IN:OUT.
use Rattle.std.proofs.Common.{◌≡◌, ℕ, List, IfOk, map, sym, subst}
use Rattle.std.proofs.lemmas.Simd.{map-map}
use Rattle.plain_words.specs.Parts.{PlateNames, parts_of}
use Rattle.plain_words.proofs.files.plate_names.Goals as goal

pub returns : goal.returns
returns g c = subst (λ (named : List (List ℕ)). IfOk c.first_names.result (λ names. names ≡ named)) (sym (map-map (λ (p : PlateNames). p.name) parts_of (map g.S.AsStr.text c.args.words.now))) c.first_names.ensures
