-- What the words of a sheet mean.
use Rattle.std.specs.Prelude.{ℕ, Bool, not, ◌&&◌, if◌then◌else◌, List, ◌∷◌, map, Option, Some, None}
use Rattle.std.specs.Str.{bytes_eq}
use Rattle.plain_words.specs.Numbers.{number_of}
use Rattle.plain_words.specs.Parts.{PlateNames, parts_of}
use Rattle.plain_words.specs.Plates.{are_plates, stand_together}
use Rattle.plain_words.specs.Written.{reads_written as reads_named}
use Rattle.page_model.specs.Limits.{most_workers}

-- a sheet: its workers, and the files that are read and written
pub record SheetWords : Type 0 where
  pub workers : ℕ
  pub job : List ℕ
  pub report : List ℕ
  pub plates : List PlateNames

-- whether a file that is read is one that is written, each by the name that its word is
abbrev pub reads_written : List ℕ → List ℕ → List PlateNames → Bool
reads_written = reads_named (λ word name. bytes_eq name word)

-- the plates of these words, where each has its form, they stand together, and no file that is read
-- is one that is written
abbrev pub plates_of : List ℕ → List ℕ → List (List ℕ) → Option (List PlateNames)
plates_of job report words =
    if are_plates words && stand_together report (map parts_of words)
    && not (reads_written job report (map parts_of words)) then Some (map parts_of words)
    else None

-- with the workers and the plates that are known
abbrev pub order_with : Option ℕ → List ℕ → List ℕ → Option (List PlateNames)
    → Option SheetWords
order_with (Some workers) job report (Some plates) =
    Some (record { workers = workers; job = job; report = report; plates = plates })
order_with _ _ _ _ = None

-- the sheet that the words after the program's name mean: WORKERS JOB REPORT NAME:IN:OUT ..., 1 to
-- 64 workers
abbrev pub order_of : List (List ℕ) → Option SheetWords
order_of (workers ∷ job ∷ report ∷ plates) =
    order_with (number_of 1 most_workers workers) job report (plates_of job report plates)
order_of _ = None
