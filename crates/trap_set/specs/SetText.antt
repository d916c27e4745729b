-- The text of a set, line by line.
use Rattle.std.specs.Prelude.{◌≡◌, ◌⊎◌, ℕ, ◌+◌, ◌*◌, ◌<◌, ◌≤◌, List, [], ◌∷◌, ◌++◌, length, map}
use Rattle.std.specs.Prelude.{codes, All, AllPairs}
use Rattle.std.specs.Fmt.{decimal}
use Rattle.std.specs.List.{flat_map}
use Rattle.page_model.specs.declared.parts.Plane.{Plane}
use Rattle.page_model.specs.Limits.{most_maxval, most_plates, most_samples, most_side}
use Rattle.page_model.specs.Shapes.{wide, tall, deep}
use Rattle.trap_set.specs.Runs.{Run, trap_runs}

-- what the second line of a set says: the sides and the maxval of the planes, and how many they are
pub record SetHead : Type 0 where
  pub width : ℕ
  pub height : ℕ
  pub maxval : ℕ
  pub plates : ℕ

abbrev pub line : List ℕ → List ℕ
line text = text ++ 10 ∷ []

-- a space, and a number without leading zeros
abbrev pub number : ℕ → List ℕ
number n = 32 ∷ decimal n

abbrev pub title_line : List ℕ
title_line = line (codes "trap set")

abbrev pub page_line : SetHead → List ℕ
page_line head =
    line (codes "page" ++ number head.width ++ number head.height ++ number head.maxval
    ++ codes " plates" ++ number head.plates)

abbrev pub run_line : Run → List ℕ
run_line run =
    line (codes "run" ++ number run.y ++ number run.x ++ number run.count
    ++ flat_map number run.tints)

abbrev pub end_line : List ℕ
end_line = line (codes "end")

-- the lines of a set, each with its LF
abbrev pub set_lines : SetHead → List Run → List (List ℕ)
set_lines head runs = title_line ∷ page_line head ∷ map run_line runs ++ end_line ∷ []

-- the text of a set
abbrev pub set_bytes : SetHead → List Run → List ℕ
set_bytes head runs = flat_map (λ text. text) (set_lines head runs)

pub record IsHead (head : SetHead) : Type 0 where
  pub some_width : 1 ≤ head.width
  pub narrow : head.width ≤ most_side
  pub some_height : 1 ≤ head.height
  pub low : head.height ≤ most_side
  pub some_maxval : 1 ≤ head.maxval
  pub maxval_fits : head.maxval ≤ most_maxval
  pub some_plates : 1 ≤ head.plates
  pub few_plates : head.plates ≤ most_plates
  pub few_samples : head.width * head.height * head.plates ≤ most_samples

-- a run of some samples within a row, with a tint for each plate
pub record IsRun (head : SetHead) (run : Run) : Type 0 where
  pub in_rows : run.y < head.height
  pub some : 1 ≤ run.count
  pub in_row : run.x + run.count ≤ head.width
  pub one_each : length run.tints ≡ head.plates
  pub below : All (λ tint. tint ≤ head.maxval) run.tints

-- a run lies after another: in a later row, or in its row at or after its end
abbrev pub Follows : Run → Run → Type 0
Follows earlier later = (earlier.y < later.y)
    ⊎ ((earlier.y ≡ later.y) × (earlier.x + earlier.count ≤ later.x))

-- what a set may hold: runs in their order
pub record IsSet (head : SetHead) (runs : List Run) : Type 0 where
  pub in_range : IsHead head
  pub within : All (IsRun head) runs
  pub ascend : AllPairs Follows runs

-- the bytes are the text of this set
pub record IsSetFile (bytes : List ℕ) (head : SetHead) (runs : List Run) : Type 0 where
  pub is_set : IsSet head runs
  pub text : bytes ≡ set_bytes head runs

-- the head of planes of one shape
abbrev pub head_of : List Plane → SetHead
head_of planes = record {
  width = wide planes;
  height = tall planes;
  maxval = deep planes;
  plates = length planes;
}

-- the set of what changed between planes of one shape
abbrev pub set_text : List Plane → List Plane → List ℕ
set_text old new = set_bytes (head_of old) (trap_runs old new)
