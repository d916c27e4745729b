-- What a line of a list of jobs means.
use Rattle.std.specs.Prelude.{◌≡◌, ℕ, ◌≤◌, Bool, not, eqb, ◌&&◌, nat_le, if◌then◌else◌, List, ◌∷◌}
use Rattle.std.specs.Prelude.{length, map, Option, Some, None}
use Rattle.std.specs.List.{list_all, list_any, slice_split}
use Rattle.std.specs.Str.{is_utf8}
use Rattle.plain_words.specs.Distinct.{are_distinct}
use Rattle.plain_words.specs.Parts.{PlateNames, is_plate, is_some_text, parts_of}
use Rattle.plain_words.specs.Plates.{inputs_of, names_of, outputs_of}
use Rattle.page_model.specs.Limits.{most_plates}

-- a job: its file, the file of its report, and for each plate the colorant's name, the file that is
-- read and the one that is written
pub record LineParts : Type 0 where
  pub job : List ℕ
  pub report : List ℕ
  pub names : List (List ℕ)
  pub inputs : List (List ℕ)
  pub outs : List (List ℕ)

abbrev pub line_parts : List ℕ → List ℕ → List (List ℕ) → List (List ℕ) → List (List ℕ) → LineParts
line_parts job report names inputs outs =
    record { job = job; report = report; names = names; inputs = inputs; outs = outs }

-- one to sixteen plates, of each a name and two files
pub record HasPlates (line : LineParts) : Type 0 where
  pub some : 1 ≤ length line.names
  pub few : length line.names ≤ most_plates
  pub inputs : length line.inputs ≡ length line.names
  pub outs : length line.outs ≡ length line.names

abbrev pub is_lf : ℕ → Bool
is_lf b = eqb b 10

abbrev pub is_space : ℕ → Bool
is_space b = eqb b 32

-- one to sixteen words NAME:IN:OUT, and no name twice
abbrev pub are_plates : List (List ℕ) → Bool
are_plates words =
    nat_le 1 (length words) && nat_le (length words) most_plates
    && list_all (λ w. is_plate (parts_of w)) words && are_distinct (names_of (map parts_of words))

-- the job of these words
abbrev pub line_with : List ℕ → List ℕ → List PlateNames → LineParts
line_with job report plates =
    line_parts job report (names_of plates) (inputs_of plates) (outputs_of plates)

-- JOB REPORT NAME:IN:OUT ..., no word being empty
abbrev pub line_of_words : List (List ℕ) → Option LineParts
line_of_words (job ∷ report ∷ plates) =
    if is_some_text job && is_some_text report && are_plates plates
    then Some (line_with job report (map parts_of plates)) else None
line_of_words _ = None

-- what a line of UTF-8 means, with one space between any two words
abbrev pub line_of : List ℕ → Option LineParts
line_of text =
    if is_utf8 text && not (list_any is_lf text)
    then line_of_words (slice_split is_space text) else None
