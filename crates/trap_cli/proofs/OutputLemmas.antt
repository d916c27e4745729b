-- The files that a command's plates are written into.
use Rattle.std.proofs.Common.{◌≡◌, ℕ, List, length, map, Bor, sym, ap, ◌∙◌}
use Rattle.std.proofs.lemmas.List.{length-map}
use Rattle.plain_words.specs.Parts.{PlateNames, parts_of}
use Rattle.trap_cli.specs.Stored.{plates_in}
use Rattle.plain_words.specs.Plates.{outputs_of}

-- There are as many files as words that name them.
pub as_many_files : (words : List (Bor (List ℕ))) (files : List (Bor (List ℕ))) → map (λ (f : Bor (List ℕ)). f.now) files ≡ outputs_of (plates_in words) → length files ≡ length words
as_many_files words files named = sym (length-map files (λ (f : Bor (List ℕ)). f.now)) ∙ ap (λ (l : List (List ℕ)). length l) named ∙ length-map (plates_in words) (λ (p : PlateNames). p.output) ∙ length-map (map (λ (w : Bor (List ℕ)). w.now) words) parts_of ∙ length-map words (λ (w : Bor (List ℕ)). w.now)
