-- Where the reading of a set stands.
use Rattle.std.specs.Prelude.{◌≡◌, ◌⊎◌, ◌↔◌, ℕ, ◌+◌, ◌*◌, ◌<◌, ◌≤◌, IsTrue, List, ◌∷◌, ◌++◌, length}
use Rattle.std.specs.Prelude.{map, Option, Some, None, Result, Ok, Err, All, AllPairs}
use Rattle.std.specs.List.{flat_map}
use Rattle.outside.specs.Tray.{TrayState, KeepsTray}
use Rattle.trap_set.specs.Reading.{head_in, run_in}
use Rattle.trap_set.specs.Runs.{Run}
use Rattle.trap_set.specs.SetText.{SetHead, IsHead, IsRun, Follows, end_line, page_line, run_line}
use Rattle.trap_set.specs.SetText.{title_line}
use Rattle.trap_set.specs.declared.lines.Head.{Head}
use Rattle.trap_set.specs.declared.steps.Next.{Next}
use Rattle.trap_set.specs.declared.steps.Next.TheVariants as nexts
use Rattle.trap_set.specs.declared.steps.Place.{Place}

-- a run begins at the place or after it
abbrev pub IsAfter : Place → Run → Type 0
IsAfter place run = (place.row < run.y) ⊎ ((place.row ≡ run.y) × (place.column ≤ run.x))

-- the line of a page
abbrev pub IsPageLine : List ℕ → Type 0
IsPageLine line = (head : SetHead) × IsHead head × (line ≡ page_line head)

-- the last line of a set, or the line of a run that may come at the place
abbrev pub MayCome : SetHead → Place → List ℕ → Type 0
MayCome head place line = (line ≡ end_line)
    ⊎ ((run : Run) × IsRun head run × IsAfter place run × (line ≡ run_line run))

-- the page line that was read, where one was
abbrev pub found_page : {E : Type 0} → Result (Option Head) E → Result (Option (List ℕ)) E
found_page (Ok None) = Ok None
found_page (Ok (Some head)) = Ok (Some (page_line (head_in head)))
found_page (Err e) = Err e

-- the line of a run or the last line, where one was read
abbrev pub line_in : Next → List ℕ → Option (List ℕ)
line_in nexts.Run numbers = Some (run_line (run_in numbers))
line_in nexts.End numbers = Some end_line
line_in nexts.Bad numbers = None

abbrev pub found_next : {E : Type 0} → Result Next E → List ℕ → Result (Option (List ℕ)) E
found_next (Ok next) numbers = Ok (line_in next numbers)
found_next (Err e) numbers = Err e

-- the next run may begin at the place exactly where it comes after all of these
pub record RunsTo (head : SetHead) (runs : List Run) (place : Place) : Type 0 where
  pub within : All (IsRun head) runs
  pub ascend : AllPairs Follows runs
  pub suffix : (run : Run) → IsAfter place run ↔ All (λ earlier. Follows earlier run) runs
  pub few : length runs ≤ place.row * head.width + place.column
  pub row : place.row < head.height
  pub column : place.column ≤ head.width

-- the lines of a set as far as its last run
abbrev pub begun_lines : SetHead → List Run → List (List ℕ)
begun_lines head runs = title_line ∷ page_line head ∷ map run_line runs

-- these lines were read of a file, and no call has failed since
pub record Reached (lines : List (List ℕ)) (start state : TrayState) (stored : List ℕ) : Type 0 where
  pub keeps : KeepsTray start state
  pub asked : state.asked ≡ start.asked
  pub count : state.faults ≡ start.faults
  pub text : IsTrue start.tells → start.left ≡ flat_map (λ line. line) lines ++ (stored ++ state.left)
