-- plate_inputs: the files that plates are read from, of words NAME:IN:OUT.
use Rattle.std.proofs.Common.{◌≡◌, ℕ, List, IfOk, map, sym, subst}
use Rattle.std.proofs.lemmas.Simd.{map-map}
use Rattle.plain_words.specs.Parts.{PlateNames, parts_of}
use Rattle.plain_words.proofs.files.plate_inputs.Goals as goal

pub returns : goal.returns
returns g c = subst (λ (named : List (List ℕ)). IfOk c.files_at.result (λ files. map (λ file. file.now) files.items ≡ named)) (sym (map-map (λ (p : PlateNames). p.input) parts_of (map g.S.AsStr.text c.args.words.now))) c.files_at.ensures
