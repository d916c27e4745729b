-- What the count holds while it goes over the rows of a plate.
use Rattle.std.specs.Prelude.{◌≡◌, ℕ, zero, suc, ◌+◌, ◌*◌, Bool, ◌<◌, ◌≤◌, ◌==◌, min, nat_lt}
use Rattle.std.specs.Prelude.{vec_capacity, vec_len, List, slice_index, if◌then◌else◌}
use Rattle.page_model.specs.declared.parts.Plane.{Plane}
use Rattle.page_model.specs.Shapes.{wide, tall}
use Rattle.misregister.specs.declared.workspace.Workspace.{Workspace}
use Rattle.misregister.specs.Risk.{is_outline, bares_in_row, can_outline}

-- of the places below n the last that passes bares all places up to the radius past it: the first
-- place that none bares
abbrev pub bared_until : (ℕ → Bool) → ℕ → ℕ → ℕ
bared_until test radius zero = 0
bared_until test radius (suc n) = if test n then n + radius + 1 else bared_until test radius n

abbrev pub bit : Bool → ℕ
bit b = if b then 1 else 0

-- 2 where plate c has no ink on the sample, 1 where it has and can leave it bare, else 0
abbrev pub shade : List Plane → ℕ → ℕ → ℕ → ℕ → ℕ
shade planes radius c x y =
    if can_outline planes radius c x y then 1 + bit (is_outline planes c x y) else 0

-- the least shade of the first n plates, of at most 2
abbrev pub least_shade : List Plane → ℕ → ℕ → ℕ → ℕ → ℕ
least_shade planes radius x y zero = 2
least_shade planes radius x y (suc n) =
    min (least_shade planes radius x y n) (shade planes radius n x y)

-- whether a row's entry says that the plate has no ink there
abbrev pub is_clear : List ℕ → ℕ → Bool
is_clear row x = slice_index row x == 2

-- the entry of column x in row y of a list of rows
abbrev pub at : List ℕ → ℕ → ℕ → ℕ → ℕ
at list columns y x = slice_index list (y * columns + x)

-- of one row of a list of rows the first n columns hold the values, and all else is as it was
pub record IsRowSoFar (old new : List ℕ) (columns row : ℕ) (value : ℕ → ℕ) (n : ℕ) : Type 0 where
  pub put : (x : ℕ) → x < n → at new columns row x ≡ value x
  pub later : (x : ℕ) → n ≤ x → x < columns → at new columns row x ≡ at old columns row x
  pub kept : (x y : ℕ) → x < columns → (y ≡ row → ⊥) → at new columns y x ≡ at old columns y x

-- one row holds the values, and all else is as it was
pub record IsRowPut (old new : List ℕ) (columns row : ℕ) (value : ℕ → ℕ) : Type 0 where
  pub put : (x : ℕ) → x < columns → at new columns row x ≡ value x
  pub kept : (x y : ℕ) → x < columns → (y ≡ row → ⊥) → at new columns y x ≡ at old columns y x

-- the buffers are as long as a row and as the page
pub record HasWorkspace (planes : List Plane) (workspace : Workspace) : Type 0 where
  pub row : vec_len workspace.row ≡ wide planes
  pub until : vec_len workspace.until ≡ wide planes
  pub shades : vec_len workspace.shades ≡ wide planes * tall planes

-- the buffers have the memory that they had: nothing was allocated
pub record KeepsMemory (old new : Workspace) : Type 0 where
  pub row : vec_capacity new.row ≡ vec_capacity old.row
  pub until : vec_capacity new.until ≡ vec_capacity old.until
  pub shades : vec_capacity new.shades ≡ vec_capacity old.shades

-- the shade of a sample of plate c beside the older plates' shade, after the first `entered` rows
-- were asked and the first `left` ones were closed
abbrev pub stage : List Plane → ℕ → ℕ → ℕ → ℕ → ℕ → ℕ → ℕ → ℕ
stage planes radius c entered left x y older =
    if nat_lt y left then min older (shade planes radius c x y) else
    (if nat_lt y entered then min older (1 + bit (is_outline planes c x y)) else older)

-- plate c is under way, and the shades were `older` before it
pub record IsUnderWay (planes : List Plane) (radius c : ℕ) (older : List ℕ) (workspace : Workspace)
    (entered left : ℕ) : Type 0 where
  pub until : (x : ℕ) → x < wide planes
      → slice_index workspace.until.items x ≡ bared_until (bares_in_row planes radius c x) radius entered
  pub shades : (x y : ℕ) → x < wide planes → y < tall planes
      → at workspace.shades.items (wide planes) y x
      ≡ stage planes radius c entered left x y (at older (wide planes) y x)
