-- What the program holds of a sheet's words, as the words that it stands for.
use Rattle.std.specs.Prelude.{◌≡◌, ℕ, ◌≤◌, List, length, map, string_bytes}
use Rattle.std.specs.Borrow.{Bor}
use Rattle.plain_words.specs.Parts.{parts_of}
use Rattle.plain_words.specs.Plates.{inputs_of}
use Rattle.trapsheet_cli.specs.Words.{SheetWords}
use Rattle.trapsheet_cli.specs.declared.words.SheetArgs.{SheetArgs}
use Rattle.page_model.specs.Limits.{most_plates, most_workers}

-- the sheet of the words that are held
abbrev pub order_in : SheetArgs → SheetWords
order_in order = record {
  workers = order.workers;
  job = order.job.now;
  report = order.report.now;
  plates = map parts_of (map string_bytes order.plates.now);
}

-- the limits of what the words may ask for
pub record IsWithin (order : SheetArgs) : Type 0 where
  pub workers_from : 1 ≤ order.workers
  pub workers_to : order.workers ≤ most_workers
  pub some : 1 ≤ length order.plates.now
  pub few : length order.plates.now ≤ most_plates

-- the files that the plates of these words are read from
pub record AreInputs (order : SheetArgs) (inputs : List (Bor (List ℕ))) : Type 0 where
  pub named : map (λ file. file.now) inputs ≡ inputs_of (order_in order).plates
  pub count : length inputs ≡ length order.plates.now
