-- The runs of neighbouring samples that changed in the same way.
use Rattle.std.specs.Prelude.{◌≡◌, ℕ, zero, suc, ◌+◌, ◌-◌, ◌*◌, ◌/◌, ◌%◌, Bool, false, ◌&&◌, not}
use Rattle.std.specs.Prelude.{nat_le, nat_lt, ◌==◌, List, [], ◌∷◌, ◌++◌, length, slice_index}
use Rattle.std.specs.Prelude.{if◌then◌else◌}
use Rattle.page_model.specs.declared.parts.Plane.{Plane}
use Rattle.page_model.specs.Planes.{tints_of}
use Rattle.lists.specs.Words.{any_below, list_below}
use Rattle.page_model.specs.Shapes.{AreOneShape, wide, tall, deep}

-- neighbouring samples of row y, from column x on, that all get the same tints, one for each plate
pub record Run : Type 0 where
  pub y : ℕ
  pub x : ℕ
  pub count : ℕ
  pub tints : List ℕ

-- the run covers the sample in column x and row y
abbrev pub covers : Run → ℕ → ℕ → Bool
covers run x y = (run.y == y) && (nat_le run.x x && nat_lt x (run.x + run.count))

-- the tint of plane c at a sample
abbrev pub tint_at : List Plane → ℕ → ℕ → ℕ → ℕ
tint_at planes c x y = slice_index (tints_of planes c) (y * wide planes + x)

-- some plane has another tint than before at the sample
abbrev pub changes : List Plane → List Plane → ℕ → ℕ → Bool
changes old new x y = any_below (λ c. not (tint_at old c x y == tint_at new c x y)) (length old)

-- no plane has another tint in column j than in column i of the row
abbrev pub same_tints : List Plane → ℕ → ℕ → ℕ → Bool
same_tints planes i j y =
    not (any_below (λ c. not (tint_at planes c i y == tint_at planes c j y)) (length planes))

-- the sample and its left neighbour both change, and have the same new tints
abbrev pub goes_on : List Plane → List Plane → ℕ → ℕ → Bool
goes_on old new zero y = false
goes_on old new (suc x) y =
    changes old new x y && (changes old new (suc x) y && same_tints new x (suc x) y)

-- the sample changes, and is the first of its run
abbrev pub begins : List Plane → List Plane → ℕ → ℕ → Bool
begins old new x y = changes old new x y && not (goes_on old new x y)

-- how many of the n samples from column x on go on, one after another
abbrev pub run_on : List Plane → List Plane → ℕ → ℕ → ℕ → ℕ
run_on old new y x zero = 0
run_on old new y x (suc n) = if goes_on old new x y then suc (run_on old new y (suc x) n) else 0

-- the run of which a sample is the first: as far as the samples of the row go on
abbrev pub run_at : List Plane → List Plane → ℕ → ℕ → Run
run_at old new x y = record {
  y = y;
  x = x;
  count = suc (run_on old new y (suc x) (wide old - suc x));
  tints = list_below (λ c. tint_at new c x y) (length new);
}

-- the runs that begin at the first n samples, row by row from the top
abbrev pub runs_below : List Plane → List Plane → ℕ → List Run
runs_below old new zero = []
runs_below old new (suc n) =
    runs_below old new n
    ++ (if begins old new (n % wide old) (n / wide old)
    then run_at old new (n % wide old) (n / wide old) ∷ [] else [])

-- all runs of the samples that change
abbrev pub trap_runs : List Plane → List Plane → List Run
trap_runs old new = runs_below old new (wide old * tall old)

-- planes before and after, all of one shape
pub record ArePair (old new : List Plane) : Type 0 where
  pub before : AreOneShape old
  pub after : AreOneShape new
  pub as_many : length new ≡ length old
  pub as_wide : wide new ≡ wide old
  pub as_tall : tall new ≡ tall old
  pub as_deep : deep new ≡ deep old
