-- The nearest edge of each sample of a row among the nearest edges of its columns.
use Rattle.std.specs.Prelude.{ℕ, ◌+◌, ◌*◌, ◌<◌, Bool, true, Option, List, AllPairs, length}
use Rattle.std.specs.Prelude.{slice_index_or}
use Rattle.page_model.specs.Arms.{ArmModel}
use Rattle.lists.specs.Words.{gap, square, first_least}

-- stands where there is no arm
abbrev pub no_arm : ArmModel
no_arm = record { column = 0; square = 0 }

abbrev pub arm_at : List ArmModel → ℕ → ArmModel
arm_at arms k = slice_index_or arms k no_arm

-- the squared distance of an arm's edge from the doubled coordinate
abbrev pub d2_of_arm : ArmModel → ℕ → ℕ
d2_of_arm b x2 = square (gap b.column x2) + b.square

-- in ascending order of columns, each once
abbrev pub Rising : List ArmModel → Type 0
Rising arms = AllPairs (λ (a b : ArmModel). a.column < b.column) arms

abbrev pub every : ℕ → Bool
every k = true

unfoldable pub arm_d2 : List ArmModel → ℕ → ℕ → ℕ
arm_d2 arms x2 k = d2_of_arm (arm_at arms k) x2

-- the place of the arm with the least (d2, X) at sample x; the arms stand in the order of X
unfoldable pub nearest : List ArmModel → ℕ → Option ℕ
nearest arms x = first_least (arm_d2 arms (2 * x)) every (length arms)
