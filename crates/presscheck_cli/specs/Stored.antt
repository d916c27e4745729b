-- What the program holds of a check, as the words that it stands for.
use Rattle.std.specs.Prelude.{◌≤◌, length, map, string_bytes}
use Rattle.plain_words.specs.Parts.{input_of}
use Rattle.presscheck_cli.specs.Words.{CheckWords}
use Rattle.presscheck_cli.specs.declared.words.PresscheckArgs.{PresscheckArgs}
use Rattle.page_model.specs.Limits.{most_plates}
use Rattle.misregister.specs.Limits.{most_radius}

-- the check of the words that are held
abbrev pub check_in : PresscheckArgs → CheckWords
check_in check = record {
  radius = check.radius;
  job = check.job.now;
  plates = map input_of (map string_bytes check.plates.now);
}

-- the limits of what the words may ask for
pub record IsWithin (check : PresscheckArgs) : Type 0 where
  pub radius : check.radius ≤ most_radius
  pub some : 1 ≤ length check.plates.now
  pub few : length check.plates.now ≤ most_plates
