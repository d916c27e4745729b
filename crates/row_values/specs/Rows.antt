-- The values of some rows of a page, as they are made and handed on: row by row from the top.
use Rattle.std.specs.Prelude.{◌≡◌, ℕ, ◌+◌, ◌-◌, ◌*◌, ◌/◌, ◌%◌, ◌<◌, List, length, slice_index}
use Rattle.row_values.specs.declared.rows.Rows.{Rows}
use Rattle.page_model.specs.declared.parts.PageParts.{PageParts}
use Rattle.page_model.specs.Columns.{column_answer}
use Rattle.page_model.specs.Deciding.{mark}
use Rattle.page_model.specs.Page.{plates, width}
use Rattle.page_model.specs.Reach.{page_reach}
use Rattle.page_model.specs.Tints.{new}
use Rattle.page_model.specs.Zones.{zone_of}

-- a list with `wide` items a row has the values of these rows, each by its row and its place in it
pub record HoldsRows (wide : ℕ) (value : ℕ → ℕ → ℕ) (rows : Rows) (items : List ℕ) : Type 0 where
  pub long : length items ≡ rows.count * wide
  pub each : (k o : ℕ) → k < rows.count → o < wide
      → slice_index items (k * wide + o) ≡ value (rows.first + k) o

-- the zone of each sample
abbrev pub zone_value : PageParts → ℕ → ℕ → ℕ
zone_value page y x = zone_of page (record { x = x; y = y })

abbrev pub HoldsZones : PageParts → Rows → List ℕ → Type 0
HoldsZones page rows zones = HoldsRows (width page) (zone_value page) rows zones

-- the two marks of each sample
abbrev pub HoldsMarks : PageParts → Rows → List ℕ → Type 0
HoldsMarks page rows marks = HoldsRows (width page) (mark page) rows marks

-- a row of the doubled grid
abbrev pub doubled : PageParts → ℕ
doubled page = 2 * width page - 1

-- the answer of each doubled column
abbrev pub answer_value : PageParts → ℕ → ℕ → ℕ
answer_value page y x2 = column_answer page (page_reach page) x2 y

abbrev pub HoldsAnswers : PageParts → Rows → List ℕ → Type 0
HoldsAnswers page rows codes = HoldsRows (doubled page) (answer_value page) rows codes

-- the new tints, in each row plate after plate
abbrev pub tint_value : PageParts → ℕ → ℕ → ℕ
tint_value page y o = new page (record { x = o % width page; y = y }) (o / width page)

abbrev pub HoldsTints : PageParts → Rows → List ℕ → Type 0
HoldsTints page rows tints = HoldsRows (plates page * width page) (tint_value page) rows tints
