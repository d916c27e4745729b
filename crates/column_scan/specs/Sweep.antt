-- What a sweep over rows of marks keeps for a column: the last row whose edge decides, and the
-- edge's offset.
use Rattle.std.specs.Prelude.{◌≡◌, ℕ, zero, suc, ◌+◌, ◌-◌, ◌*◌, ◌%◌, ◌<◌, ◌≤◌, Bool, nat_le, List}
use Rattle.std.specs.Prelude.{length, slice_index, Option, Some, None, if◌then◌else◌}
use Rattle.page_model.specs.Marks.{Marked, stored_rows, marked}
use Rattle.page_model.specs.Limits.{level_code}

-- the Y of doubled column x2 in a row: on it where x2 is odd, below it where x2 is even
abbrev pub row_edge : ℕ → ℕ → ℕ
row_edge x2 row = 2 * row + 1 - x2 % 2

-- whether the edge of column x2 in row r of the marks decides
unfoldable pub passes : Marked → ℕ → ℕ → Bool
passes m x2 r = marked m x2 (row_edge x2 (m.top + r))

abbrev pub or_keep : Bool → ℕ → Option ℕ → Option ℕ
or_keep test r keep = if test then Some r else keep

-- the last number below n that passes
abbrev pub last_below : (ℕ → Bool) → ℕ → Option ℕ
last_below test zero = None
last_below test (suc n) = or_keep (test n) n (last_below test n)

-- the first of the k numbers before n that passes
abbrev pub first_before : (ℕ → Bool) → ℕ → ℕ → Option ℕ
first_before test n zero = None
first_before test n (suc k) = or_keep (test (n - suc k)) (n - suc k) (first_before test n k)

-- the offset of row j's edge from row r plus the code of a level answer
abbrev pub code_at : ℕ → ℕ → ℕ → ℕ
code_at x2 r j = row_edge x2 j + level_code - 2 * r

-- the code of an edge that is not below row r, 0 where there is none within reach
abbrev pub above_code : ℕ → ℕ → ℕ → Option ℕ → ℕ
above_code x2 r reach None = 0
above_code x2 r reach (Some j) =
    if nat_le (2 * r) (row_edge x2 j + reach) then code_at x2 r j else 0

-- the code of the nearer one of an edge given by its code and of an edge below row r
abbrev pub nearer_code : ℕ → ℕ → ℕ → ℕ → Option ℕ → ℕ
nearer_code x2 r reach above None = above
nearer_code x2 r reach above (Some j) =
    if nat_le (row_edge x2 j) (2 * r + reach)
    then (if nat_le 1 above
    then (if nat_le (2 * level_code) (code_at x2 r j + above) then above else code_at x2 r j)
    else code_at x2 r j) else above

-- the last row whose edge is not below row r, and the first one whose edge is
abbrev pub row_above : Marked → ℕ → ℕ → Option ℕ
row_above m x2 r = last_below (passes m x2) (r + x2 % 2)

abbrev pub row_below : Marked → ℕ → ℕ → Option ℕ
row_below m x2 r = first_before (passes m x2) (stored_rows m) (stored_rows m - (r + x2 % 2))

-- the first deciding row from r on
abbrev pub first_from : Marked → ℕ → ℕ → Option ℕ
first_from m x2 r = first_before (passes m x2) (stored_rows m) (stored_rows m - r)

unfoldable pub above_of : Marked → ℕ → ℕ → ℕ → ℕ
above_of m x2 reach r = above_code x2 r reach (row_above m x2 r)

unfoldable pub column_of : Marked → ℕ → ℕ → ℕ → ℕ
column_of m x2 reach r = nearer_code x2 r reach (above_of m x2 reach r) (row_below m x2 r)

abbrev pub slot : List ℕ → ℕ → ℕ → ℕ → ℕ
slot out columns row x2 = slice_index out (row * columns + x2)

-- the code of the row above seen one row further down, where the edge in between does not
-- decide; else the code of that edge
abbrev pub lowered : ℕ → ℕ → ℕ
lowered reach code = if nat_le (level_code + 2) (code + reach) then code - 2 else 0

abbrev pub above_step : ℕ → ℕ → Bool → ℕ → ℕ
above_step x2 reach seen code =
    if seen then (if nat_le 1 (x2 % 2 + reach) then level_code - 1 + x2 % 2 else 0)
    else lowered reach code

-- the code of the nearer one of an edge with a code and of the edge of the row below
abbrev pub raised : ℕ → ℕ → ℕ → ℕ
raised reach above below =
    if nat_le 1 below then (if nat_le (below + 2) (level_code + reach)
    then (if nat_le 1 above
    then (if nat_le (2 * level_code) (above + below + 2) then above else below + 2)
    else below + 2) else above) else above

-- of one row the first n columns hold the values, and all else is as it was
pub record IsRowWritten (old new : List ℕ) (columns row : ℕ) (value : ℕ → ℕ) (n : ℕ) : Type 0 where
  pub len : length new ≡ length old
  pub done : (x2 : ℕ) → x2 < n → slot new columns row x2 ≡ value x2
  pub later : (x2 : ℕ) → n ≤ x2 → x2 < columns → slot new columns row x2 ≡ slot old columns row x2
  pub kept : (k x2 : ℕ) → x2 < columns → (k ≡ row → ⊥)
      → slot new columns k x2 ≡ slot old columns k x2
