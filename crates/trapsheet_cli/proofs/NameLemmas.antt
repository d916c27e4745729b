-- The files that the words of plates name.
use Rattle.std.proofs.Common.{◌≡◌, ℕ, List, Bor, length, map, sym, ap, ◌∙◌}
use Rattle.std.proofs.lemmas.List.{length-map}
use Rattle.plain_words.specs.Parts.{PlateNames, parts_of}

-- as many files as words
pub files_count : (part : PlateNames → List ℕ) (files : List (Bor (List ℕ))) (words : List (List ℕ)) → map (λ (f : Bor (List ℕ)). f.now) files ≡ map part (map parts_of words) → length files ≡ length words
files_count part files words named =
    sym (length-map files (λ (f : Bor (List ℕ)). f.now)) ∙ ap (λ (l : List (List ℕ)). length l) named ∙ length-map (map parts_of words) part ∙ length-map words parts_of
