-- plate_outputs: the files that plates are written into, of words NAME:IN:OUT.
use Rattle.std.proofs.Common.{◌≡◌, ℕ, List, IfOk, map, sym, subst}
use Rattle.std.proofs.lemmas.Simd.{map-map}
use Rattle.plain_words.specs.Parts.{PlateNames, parts_of}
use Rattle.plain_words.proofs.files.plate_outputs.Goals as goal

pub returns : goal.returns
returns g c = subst (λ (named : List (List ℕ)). IfOk c.files_at.result (λ files. map (λ file. file.now) files.items ≡ named)) (sym (map-map (λ (p : PlateNames). p.output) parts_of (map g.S.AsStr.text c.args.words.now))) c.files_at.ensures
