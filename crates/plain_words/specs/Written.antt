-- Files that are read, beside those that are written: a naming says of a word and a name whether
-- what is written for the word may stand in a file of that name.
use Rattle.std.specs.Prelude.{ℕ, Bool, List, ◌∷◌}
use Rattle.std.specs.List.{list_any}
use Rattle.plain_words.specs.Parts.{PlateNames}
use Rattle.plain_words.specs.Plates.{inputs_of, outputs_of}

-- whether the report or a plate may be written into a file of that name
abbrev pub is_written : (List ℕ → List ℕ → Bool) → List ℕ → List PlateNames → List ℕ → Bool
is_written may_name report plates name =
    list_any (λ word. may_name word name) (report ∷ outputs_of plates)

-- whether a file that is read, the job's or a plate's, may be one that is written
abbrev pub reads_written : (List ℕ → List ℕ → Bool) → List ℕ → List ℕ → List PlateNames → Bool
reads_written may_name job report plates =
    list_any (is_written may_name report plates) (job ∷ inputs_of plates)
