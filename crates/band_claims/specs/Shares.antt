-- Shares in the work of a table: halved where a pass is split, put together where two are joined.
use Rattle.std.specs.Prelude.{◌≡◌, ℕ, zero, suc, ◌+◌, ◌*◌, ◌≤◌, List, [], ◌∷◌}

-- 2 multiplied with itself so often
abbrev pub power : ℕ → ℕ
power zero = 1
power (suc n) = 2 * power n

-- A share is a list of depths: depth d is what d halvings leave of the whole. In how many parts
-- it is cut by halving the whole n times:
abbrev pub part_of : ℕ → ℕ → ℕ
part_of n zero = power n
part_of zero (suc d) = 0
part_of (suc n) (suc d) = part_of n d

abbrev pub parts_of : ℕ → List ℕ → ℕ
parts_of n [] = 0
parts_of n (d ∷ ds) = part_of n d + parts_of n ds

-- no depth is below n halvings
abbrev pub IsCutBy : ℕ → List ℕ → Type 0
IsCutBy n [] = Unit {0}
IsCutBy n (d ∷ ds) = (d ≤ n) × IsCutBy n ds

abbrev pub halved : List ℕ → List ℕ
halved [] = []
halved (d ∷ ds) = suc d ∷ halved ds

-- the share is all of the work
pub record IsWhole (share : List ℕ) : Type 0 where
  pub halvings : ℕ
  pub cut : IsCutBy halvings share
  pub all : parts_of halvings share ≡ power halvings

-- two shares are of one size
pub record SameShare (one other : List ℕ) : Type 0 where
  pub halvings : ℕ
  pub cut : IsCutBy halvings one
  pub other_cut : IsCutBy halvings other
  pub same : parts_of halvings one ≡ parts_of halvings other
