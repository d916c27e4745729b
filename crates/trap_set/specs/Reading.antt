-- What is read from a line of a set.
use Rattle.std.specs.Prelude.{◌≡◌, ℕ, ◌+◌, ◌<◌, List, length, slice_index, drop, All}
use Rattle.trap_set.specs.declared.lines.Head.{Head}
use Rattle.trap_set.specs.Numbers.{past_numbers}
use Rattle.trap_set.specs.Runs.{Run}
use Rattle.trap_set.specs.SetText.{SetHead}

-- what the second line says
abbrev pub head_in : Head → SetHead
head_in head = record {
  width = head.width;
  height = head.height;
  maxval = head.maxval;
  plates = head.plates;
}

-- its numbers have five digits at most
pub record AreShort (head : SetHead) : Type 0 where
  pub width : head.width < past_numbers
  pub height : head.height < past_numbers
  pub maxval : head.maxval < past_numbers
  pub plates : head.plates < past_numbers

-- the run whose line has these numbers: its row, its column, how many samples it has, and its tints
abbrev pub run_in : List ℕ → Run
run_in numbers = record {
  y = slice_index numbers 0;
  x = slice_index numbers 1;
  count = slice_index numbers 2;
  tints = drop 3 numbers;
}

-- a run whose line has `count` numbers, each of five digits at most
pub record IsShortRun (count : ℕ) (run : Run) : Type 0 where
  pub as_many : length run.tints + 3 ≡ count
  pub place : (run.y < past_numbers) × (run.x < past_numbers) × (run.count < past_numbers)
  pub tints : All (λ tint. tint < past_numbers) run.tints
