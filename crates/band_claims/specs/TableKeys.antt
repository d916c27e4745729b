-- What the rule reads of a table's key.
use Rattle.std.specs.Prelude.{ℕ}
use Rattle.band_core.specs.Shapes.{shape_of as layout_shape}
use Rattle.band_core.specs.TableShapes.{Shape}
use Rattle.band_core.specs.Values.{IsFor, cell as page_cell}
use Rattle.band_claims.specs.declared.table_key.TableKey.{TableKey}

-- the defined value of cell j
unfoldable pub cell : TableKey → ℕ → ℕ
cell key j = page_cell key.page.value key.layout j

abbrev pub shape_of : TableKey → Shape
shape_of key = layout_shape key.layout

-- the layout is that of the page
abbrev pub IsFit : TableKey → Type 0
IsFit key = IsFor key.page.value key.layout
