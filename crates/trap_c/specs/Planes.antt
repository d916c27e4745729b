-- The planes that lie in the samples of a call: rows one after the other, the first plane first.
use Rattle.std.specs.Prelude.{◌≡◌, ℕ, zero, suc, ◌+◌, ◌*◌, ◌%◌, ◌≤◌, List, [], ◌++◌, slice_index}
use Rattle.std.specs.Prelude.{slice_range}
use Rattle.page_model.specs.declared.parts.Plane.{Plane}
use Rattle.lists.specs.Words.{list_below}
use Rattle.trap_c.specs.declared.layout.Layout.{Layout}

-- how many tints a plane has
abbrev pub size : Layout → ℕ
size layout = layout.width * layout.height

-- row r of all rows
abbrev pub row_in : Layout → List ℕ → ℕ → List ℕ
row_in layout samples r = slice_range samples (r * layout.step) (r * layout.step + layout.width)

-- some rows, from row `first` on, without what stands after the end of each
abbrev pub rows_in : Layout → List ℕ → ℕ → ℕ → List ℕ
rows_in layout samples first zero = []
rows_in layout samples first (suc n) =
    rows_in layout samples first n ++ row_in layout samples (first + n)

-- the tints of plane c
abbrev pub tints_in : Layout → List ℕ → ℕ → List ℕ
tints_in layout samples c = rows_in layout samples (c * layout.height) layout.height

-- a plane of these tints
abbrev pub plane_with : Layout → List ℕ → Plane
plane_with layout tints = record {
  width = layout.width;
  height = layout.height;
  maxval = layout.maxval;
  tints = tints;
}

-- plane c
abbrev pub plane_in : Layout → List ℕ → ℕ → Plane
plane_in layout samples c = plane_with layout (tints_in layout samples c)

-- the first `count` planes that lie there
abbrev pub planes_in : Layout → List ℕ → ℕ → List Plane
planes_in layout samples count = list_below (plane_in layout samples) count

-- What stands after the ends of rows stays.
abbrev pub KeepsGaps : Layout → List ℕ → List ℕ → Type 0
KeepsGaps layout before after =
    (k : ℕ) → layout.width ≤ k % layout.step → slice_index after k ≡ slice_index before k
