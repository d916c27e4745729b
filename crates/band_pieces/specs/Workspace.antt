-- How much memory a worker has.
use Rattle.std.specs.Prelude.{◌≡◌, ℕ, ◌+◌, ◌*◌, ◌≤◌, min}
use Rattle.row_values.specs.Workspace.{Workspace}
use Rattle.page_model.specs.Columns.{halo}
use Rattle.band_core.specs.Layouts.{Layout, IsLayout}
use Rattle.band_core.specs.Places.{per_row}

-- what contracts see of a worker's memory: the layout that it was made for, how many values of each
-- phase there is memory for, and the room of the makers
pub record Memory : Type 0 where
  pub layout : Layout
  pub zones : ℕ
  pub marks : ℕ
  pub answers : ℕ
  pub tints : ℕ
  pub workspace : Workspace

-- the most rows of a page that are within `near` rows of a band of it
abbrev pub most_rows : Layout → ℕ → ℕ
most_rows layout near = min (layout.bands.height + near) layout.bands.rows

-- the buffers are for the layout's pages, and there is memory for these numbers of values of each
-- phase: the zones of a band and the row below it, the marks of a band and of the rows within its
-- halo, the answers and the tints of a band
pub record IsWorkspace (layout : Layout) (workspace : Workspace) (zones marks answers tints : ℕ) : Type 0 where
  pub made : IsLayout layout
  pub wide : workspace.wide ≡ layout.width
  pub deep : workspace.deep ≡ layout.plates
  pub for_zones : most_rows layout 1 * per_row layout 0 ≤ zones
  pub for_marks : most_rows layout (2 * halo layout.bands.reach2) * per_row layout 1 ≤ marks
  pub for_answers : most_rows layout 0 * per_row layout 2 ≤ answers
  pub for_tints : most_rows layout 0 * per_row layout 3 ≤ tints
