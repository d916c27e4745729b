-- What the words of a command mean.
use Rattle.std.specs.Prelude.{ℕ, Bool, false, if◌then◌else◌, List, [], ◌∷◌, Option, Some, None}
use Rattle.std.specs.Prelude.{codes}
use Rattle.std.specs.Option.{option_map}
use Rattle.std.specs.Str.{bytes_eq}
use Rattle.clap.specs.Walk.{Row, all_of, first_of}
use Rattle.plain_words.specs.Numbers.{number_of}
use Rattle.trap_cli.specs.Options.{option_number}
use Rattle.trap_cli.specs.PageApp.{is_taken, rows_in}
pub use Rattle.plain_words.specs.Parts.{PlateNames}
use Rattle.trap_cli.specs.Plates.{plates_of}
use Rattle.page_model.specs.Limits.{most_band_height, most_side, most_workers}

-- a command of one page: its workers, the rows of its bands, the files that are read and written
pub record PageWords : Type 0 where
  pub workers : ℕ
  pub band : ℕ
  pub job : List ℕ
  pub report : List ℕ
  pub plates : List PlateNames

-- a command of a sample page
pub record SampleWords : Type 0 where
  pub number : ℕ
  pub width : ℕ
  pub height : ℕ
  pub workers : ℕ

-- what the words ask for
pub data Command : Type 0 where
  Page : PageWords → Command
  Sample : SampleWords → Command

-- the page of these parts, where each of them is there
abbrev pub page_with : Option ℕ → Option ℕ → List ℕ → List ℕ → Option (List PlateNames)
    → Option PageWords
page_with (Some workers) (Some band) job report (Some plates) =
    Some (record { workers = workers; band = band; job = job; report = report; plates = plates })
page_with _ _ _ _ _ = None

-- the page of the texts that were found, where each of them has its form
abbrev pub page_of : Option (List ℕ) → Option (List ℕ) → Option (List ℕ) → Option (List ℕ)
    → Option (List (List ℕ)) → Option PageWords
page_of workers band (Some job) (Some report) (Some plates) = page_with
    (option_number 1 most_workers 4 workers) (option_number 1 most_band_height 64 band) job report
    (plates_of report plates)
page_of _ _ _ _ _ = None

-- the page of what `clap` found
abbrev pub page_of_rows : List Row → Option PageWords
page_of_rows rows = page_of (first_of (codes "workers") rows) (first_of (codes "band") rows)
    (first_of (codes "job") rows) (first_of (codes "report") rows) (all_of (codes "plate") rows)

-- the page that the words mean, `page` being the first of them
abbrev pub page_of_words : List (List ℕ) → Option PageWords
page_of_words words = if is_taken words then page_of_rows (rows_in words) else None

-- the sample page of these numbers, where each of them is there
abbrev pub sample_with : Option ℕ → Option ℕ → Option ℕ → Option ℕ → Option SampleWords
sample_with (Some number) (Some width) (Some height) (Some workers) =
    Some (record { number = number; width = width; height = height; workers = workers })
sample_with _ _ _ _ = None

-- NUMBER WIDTH HEIGHT WORKERS
abbrev pub sample_of_words : List (List ℕ) → Option SampleWords
sample_of_words (number ∷ width ∷ height ∷ workers ∷ []) = sample_with
    (number_of 0 4294967295 number) (number_of 1 most_side width) (number_of 1 most_side height)
    (number_of 1 most_workers workers)
sample_of_words _ = None

-- whether `page` is the first word, so that the words go to `clap`
abbrev pub begins_with_page : List (List ℕ) → Bool
begins_with_page [] = false
begins_with_page (first ∷ rest) = bytes_eq first (codes "page")

-- the command that the words after the program's name mean
abbrev pub command_of : List (List ℕ) → Option Command
command_of [] = None
command_of (first ∷ rest) =
    if bytes_eq first (codes "page") then option_map Page (page_of_words (first ∷ rest))
    else (if bytes_eq first (codes "sample") then option_map Sample (sample_of_words rest)
    else None)
