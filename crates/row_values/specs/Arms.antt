-- The arms of a row: for each column with an answer its edge.
use Rattle.std.specs.Prelude.{◌≡◌, ℕ, ◌+◌, ◌-◌, ◌*◌, ◌<◌, ◌≤◌, List, length, slice_index, Option}
use Rattle.std.specs.Option.{option_map}
use Rattle.page_model.specs.declared.parts.EdgeAt.{EdgeAt}
use Rattle.page_model.specs.declared.parts.PageParts.{PageParts}
use Rattle.lists.specs.Words.{gap, square}
use Rattle.page_model.specs.Arms.{ArmModel}
use Rattle.row_envelope.specs.Envelope.{arm_at}
use Rattle.page_model.specs.Columns.{column_answer}
use Rattle.page_model.specs.Limits.{level_code}

-- the arm of a column's code
abbrev pub arm_of : ℕ → ℕ → ArmModel
arm_of x2 code = record { column = x2; square = square (gap code level_code) }

-- the edge of a column's code for row y
abbrev pub coded_edge : ℕ → ℕ → ℕ → EdgeAt
coded_edge y x2 code = record { x2 = x2; y2 = code + 2 * y - level_code }

-- the codes are the page's column answers for row y
pub record AreAnswers (page : PageParts) (reach y columns : ℕ) (codes : List ℕ) : Type 0 where
  pub len : length codes ≡ columns
  pub each : (x2 : ℕ) → x2 < columns → slice_index codes x2 ≡ column_answer page reach x2 y

-- the column has a code, and its arm stands at a place
pub record HasArm (codes : List ℕ) (n : ℕ) (stored : ArmModel) (x2 : ℕ) : Type 0 where
  pub column : x2 < n
  pub some : 1 ≤ slice_index codes x2
  pub arm : stored ≡ arm_of x2 (slice_index codes x2)

pub record StandsAt (columns : List ℕ) (count x2 : ℕ) : Type 0 where
  pub place : ℕ
  pub within : place < count
  pub same : slice_index columns place ≡ x2

-- the first places hold the arms of the first n columns that have a code, in their order
pub record AreArms (codes : List ℕ) (n : ℕ) (arms : List ArmModel) (columns : List ℕ)
    (count : ℕ) : Type 0 where
  pub few : count ≤ n
  pub each : (k : ℕ) → k < count → HasArm codes n (arm_at arms k) (slice_index columns k)
  pub rising : (j k : ℕ) → j < k → k < count → slice_index columns j < slice_index columns k
  pub all : (x2 : ℕ) → x2 < n → 1 ≤ slice_index codes x2 → StandsAt columns count x2

abbrev pub edge_at_place : List ℕ → ℕ → List ℕ → Option ℕ → Option EdgeAt
edge_at_place codes y columns place = option_map
    (λ (k : ℕ). coded_edge y (slice_index columns k) (slice_index codes (slice_index columns k)))
    place
