-- What the program holds of a command, as the words that it stands for.
use Rattle.std.specs.Prelude.{ℕ, ◌≤◌, List, map, vec_len}
use Rattle.std.specs.Borrow.{Bor}
use Rattle.trap_cli.specs.Words.{PlateNames, PageWords, SampleWords, Command as Meaning}
use Rattle.trap_cli.specs.Words.{Page as page, Sample as sample}
use Rattle.plain_words.specs.Parts.{parts_of}
use Rattle.trap_cli.specs.declared.command.PageArgs.{PageArgs}
use Rattle.trap_cli.specs.declared.command.SampleArgs.{SampleArgs}
use Rattle.trap_cli.specs.declared.command.Command.{Command}
use Rattle.trap_cli.specs.declared.command.Command.TheVariants.{Page, Sample}
use Rattle.page_model.specs.Limits.{most_band_height, most_plates, most_side, most_workers}

-- the plates of the words, in their order
abbrev pub plates_in : List (Bor (List ℕ)) → List PlateNames
plates_in words = map parts_of (map (λ w. w.now) words)

-- a command of a page
abbrev pub page_in : PageArgs → PageWords
page_in p =
    record {
      workers = p.workers;
      band = p.band;
      job = p.job.now;
      report = p.report.now;
      plates = plates_in p.plates.items;
    }

-- a command of a sample page
abbrev pub sample_in : SampleArgs → SampleWords
sample_in s = record { number = s.number; width = s.width; height = s.height; workers = s.workers }

-- either of them
abbrev pub command_in : Command → Meaning
command_in (Page p) = page (page_in p)
command_in (Sample s) = sample (sample_in s)

-- the limits of what the words may ask for
pub record IsPageWithin (p : PageArgs) : Type 0 where
  pub workers_from : 1 ≤ p.workers
  pub workers_to : p.workers ≤ most_workers
  pub band_from : 1 ≤ p.band
  pub band_to : p.band ≤ most_band_height
  pub plates_from : 1 ≤ vec_len p.plates
  pub plates_to : vec_len p.plates ≤ most_plates

-- the same of a sample page
pub record IsSampleWithin (s : SampleArgs) : Type 0 where
  pub width_from : 1 ≤ s.width
  pub width_to : s.width ≤ most_side
  pub height_from : 1 ≤ s.height
  pub height_to : s.height ≤ most_side
  pub workers_from : 1 ≤ s.workers
  pub workers_to : s.workers ≤ most_workers

-- the limits of either
abbrev pub IsWithin : Command → Type 0
IsWithin (Page p) = IsPageWithin p
IsWithin (Sample s) = IsSampleWithin s
