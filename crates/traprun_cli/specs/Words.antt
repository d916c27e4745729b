-- What the words of a run mean.
use Rattle.std.specs.Prelude.{ℕ, Bool, false, not, ◌==◌, ◌&&◌, nat_le, if◌then◌else◌, List, [], ◌∷◌}
use Rattle.std.specs.Prelude.{length, take, drop, map, Option, Some, None}
use Rattle.std.specs.Char.{is_ascii_digit}
use Rattle.std.specs.List.{list_all}
use Rattle.std.specs.Str.{bytes_eq}
use Rattle.page_files.specs.Inputs.{Sources}
use Rattle.plain_words.specs.Numbers.{number_of}
use Rattle.plain_words.specs.Parts.{PlateNames, parts_of}
use Rattle.plain_words.specs.Plates.{are_plates, inputs_of, names_of, outputs_of, stand_together}
use Rattle.plain_words.specs.Written.{reads_written}
use Rattle.page_files.specs.Verdicts.{Targets}
use Rattle.page_model.specs.Limits.{most_band_height, most_workers}

-- a run over many pages: its workers, the rows of its bands, the files that are read and written
pub record RunWords : Type 0 where
  pub workers : ℕ
  pub band : ℕ
  pub job : List ℕ
  pub report : List ℕ
  pub plates : List PlateNames

-- the files that are read, with the plates' names
abbrev pub sources_of : RunWords → Sources
sources_of order = record {
  job = order.job;
  names = names_of order.plates;
  inputs =
      inputs_of order.plates;
}

-- the files that are written, before a page's number is put after them
abbrev pub targets_of : RunWords → Targets
targets_of order = record { outputs = outputs_of order.plates; report = order.report }

-- `.` and at least one digit
abbrev pub is_number_end : List ℕ → Bool
is_number_end [] = false
is_number_end (dot ∷ digits) =
    dot == 46 && nat_le 1 (length digits) && list_all is_ascii_digit digits

-- whether the second name is the first one and after it `.` and digits
abbrev pub is_page_file : List ℕ → List ℕ → Bool
is_page_file written name =
    nat_le (length written) (length name) && bytes_eq (take (length written) name) written
    && is_number_end (drop (length written) name)

-- whether a file that is read may be one that a page is written into
abbrev pub reads_page_file : List ℕ → List ℕ → List PlateNames → Bool
reads_page_file = reads_written is_page_file

-- the plates of these words, where each has its form, they stand together, and no file that is read
-- is one that a page may be written into
abbrev pub plates_of : List ℕ → List ℕ → List (List ℕ) → Option (List PlateNames)
plates_of job report words =
    if are_plates words && stand_together report (map parts_of words)
    && not (reads_page_file job report (map parts_of words)) then Some (map parts_of words)
    else None

-- the run of these parts, where each of them is there
abbrev pub order_with : Option ℕ → Option ℕ → List ℕ → List ℕ → Option (List PlateNames)
    → Option RunWords
order_with (Some workers) (Some band) job report (Some plates) =
    Some (record { workers = workers; band = band; job = job; report = report; plates = plates })
order_with _ _ _ _ _ = None

-- the run that the words after the program's name mean: WORKERS BAND JOB REPORT NAME:IN:OUT ..., 1
-- to 64 workers and bands of 1 to 4,096 rows
abbrev pub order_of : List (List ℕ) → Option RunWords
order_of (workers ∷ band ∷ job ∷ report ∷ plates) =
    order_with (number_of 1 most_workers workers) (number_of 1 most_band_height band)
    job report
    (plates_of job report plates)
order_of _ = None
