-- The new tints of a sheet, as far as they are written.
use Rattle.std.specs.Prelude.{◌≡◌, ℕ, ◌+◌, ◌*◌, List, ◌++◌}
use Rattle.sheet_geometry.specs.Areas.{traps}
use Rattle.sheet_geometry.specs.StripCores.{new_from}
use Rattle.page_model.specs.declared.parts.PageParts.{PageParts}
use Rattle.page_model.specs.Page.{height, width}
use Rattle.page_model.specs.Tints.{new_tints}

-- the new tints of plate c in the first rows
abbrev pub new_rows : PageParts → ℕ → ℕ → List ℕ
new_rows sheet c rows = new_from traps sheet c 0 (rows * width sheet)

-- With the next row after them they are those of one row more.
abbrev pub NewGrow : Type 0
NewGrow = (sheet : PageParts) (c rows : ℕ)
    → new_rows sheet c rows ++ new_from traps sheet c (rows * width sheet) (width sheet)
    ≡ new_rows sheet c (rows + 1)

-- Those of all rows are all.
abbrev pub AllAreNew : Type 0
AllAreNew = (sheet : PageParts) (c : ℕ) → new_rows sheet c (height sheet) ≡ new_tints sheet c
