-- What the words of a check mean.
use Rattle.std.specs.Prelude.{ℕ, List, ◌∷◌, Option, Some, None}
use Rattle.page_files.specs.Inputs.{Sources}
use Rattle.plain_words.specs.Inputs.{inputs_of, named_plates, names_of}
use Rattle.plain_words.specs.Numbers.{number_of}
use Rattle.plain_words.specs.Parts.{InputNames}
use Rattle.misregister.specs.Limits.{most_radius}

-- a check of a page: by how many samples a plate may shift, and the files that are read
pub record CheckWords : Type 0 where
  pub radius : ℕ
  pub job : List ℕ
  pub plates : List InputNames

-- the files that are read, with the plates' names
abbrev pub sources_of : CheckWords → Sources
sources_of check = record {
  job = check.job;
  names = names_of check.plates;
  inputs = inputs_of check.plates;
}

-- the check of these parts, where each of them is there
abbrev pub check_with : Option ℕ → List ℕ → Option (List InputNames) → Option CheckWords
check_with (Some radius) job (Some plates) =
    Some (record { radius = radius; job = job; plates = plates })
check_with _ _ _ = None

-- the check that the words after the program's name mean: RADIUS JOB NAME:IN ..., the radius from 0
-- to 16
abbrev pub check_of : List (List ℕ) → Option CheckWords
check_of (radius ∷ job ∷ plates) =
    check_with (number_of 0 most_radius radius) job (named_plates plates)
check_of _ = None
