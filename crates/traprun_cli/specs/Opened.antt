-- What the program holds of a run, as the words that it stands for.
use Rattle.std.specs.Prelude.{◌≡◌, ◌≤◌, length, map, string_bytes}
use Rattle.plain_words.specs.Parts.{parts_of}
use Rattle.plain_words.specs.Plates.{inputs_of, names_of}
use Rattle.traprun_cli.specs.Words.{RunWords}
use Rattle.traprun_cli.specs.declared.gather.OpenJob.{OpenJob}
use Rattle.traprun_cli.specs.declared.words.TraprunArgs.{TraprunArgs}
use Rattle.page_model.specs.Limits.{most_band_height, most_plates, most_workers}

-- the run of the words that are held
abbrev pub order_in : TraprunArgs → RunWords
order_in order = record {
  workers = order.workers;
  band = order.band;
  job = order.job.now;
  report =
      order.report.now;
  plates = map parts_of (map string_bytes order.plates.now);
}

-- the limits of what the words may ask for
pub record IsWithin (order : TraprunArgs) : Type 0 where
  pub workers_from : 1 ≤ order.workers
  pub workers_to : order.workers ≤ most_workers
  pub band_from : 1 ≤ order.band
  pub band_to : order.band ≤ most_band_height
  pub some : 1 ≤ length order.plates.now
  pub few : length order.plates.now ≤ most_plates

-- The lists in hand are those of the words.
pub record IsOpenJob (stored : OpenJob) : Type 0 where
  pub within : IsWithin stored.order.now
  pub names : stored.names ≡ names_of (order_in stored.order.now).plates
  pub inputs : map (λ file. file.now) stored.inputs.items ≡ inputs_of (order_in stored.order.now).plates
