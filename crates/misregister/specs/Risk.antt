-- Which samples misregister could leave bare.
use Rattle.std.specs.Prelude.{ℕ, zero, suc, ◌+◌, ◌*◌, ◌/◌, ◌%◌, Bool, true, ◌&&◌, not, nat_le, ◌==◌}
use Rattle.std.specs.Prelude.{List, length, slice_index}
use Rattle.page_model.specs.declared.parts.Plane.{Plane}
use Rattle.page_model.specs.Planes.{tints_of}
use Rattle.lists.specs.Words.{any_below, count_below, gap}
use Rattle.page_model.specs.Shapes.{wide, tall}

-- whether each number below n passes the test
abbrev pub all_below : (ℕ → Bool) → ℕ → Bool
all_below test zero = true
all_below test (suc n) = all_below test n && test n

-- plate c has no ink on the sample in column x and row y
abbrev pub is_outline : List Plane → ℕ → ℕ → ℕ → Bool
is_outline planes c x y = slice_index (tints_of planes c) (y * wide planes + x) == 0

-- one place is at most so far from another
abbrev pub is_near : ℕ → ℕ → ℕ → Bool
is_near radius a b = nat_le (gap a b) radius

-- in row k of plate c some sample without ink is near column x
abbrev pub bares_in_row : List Plane → ℕ → ℕ → ℕ → ℕ → Bool
bares_in_row planes radius c x k =
    any_below (λ j. is_near radius x j && is_outline planes c j k) (wide planes)

-- plate c can shift, by at most the radius to each side, so that a sample of the page without its
-- ink lies on (x, y)
abbrev pub can_outline : List Plane → ℕ → ℕ → ℕ → ℕ → Bool
can_outline planes radius c x y =
    any_below (λ k. is_near radius y k && bares_in_row planes radius c x k) (tall planes)

-- some plate has ink on the sample
abbrev pub is_inked : List Plane → ℕ → ℕ → Bool
is_inked planes x y = any_below (λ c. not (is_outline planes c x y)) (length planes)

-- ink lies on the sample, and the plates, each by a shift of its own, can leave it bare
abbrev pub is_at_risk : List Plane → ℕ → ℕ → ℕ → Bool
is_at_risk planes radius x y =
    is_inked planes x y && all_below (λ c. can_outline planes radius c x y) (length planes)

-- how many samples are at risk
abbrev pub risk : List Plane → ℕ → ℕ
risk planes radius =
    count_below (λ k. is_at_risk planes radius (k % wide planes) (k / wide planes))
    (wide planes * tall planes)
