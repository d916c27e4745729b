-- What contracts see of a closed table.
use Rattle.std.specs.Prelude.{◌≡◌, ℕ, ◌+◌, ◌≤◌, ◌==◌, List, [], ◌∷◌, length, slice_index}
use Rattle.std.specs.Prelude.{if◌then◌else◌}
use Rattle.band_claims.specs.declared.table_key.TableKey.{TableKey}
use Rattle.band_claims.specs.declared.view.Look.{Look}
use Rattle.band_claims.specs.TableKeys.{shape_of, IsFit}

pub record Receipt : Type 0 where
  pub table_key : TableKey
  pub words : List ℕ
  -- the words when the table was closed
  pub left : List ℕ
  pub published : List ℕ
  pub seen : List ℕ
  pub looked : List Look
  pub reported : List Look
  pub alone : List ℕ
  -- how many marks there is memory for
  pub workspace : ℕ

-- each number is greater than the one before it, and the first is at least n
abbrev pub Ascends : ℕ → List ℕ → Type 0
Ascends n [] = Unit {0}
Ascends n (x ∷ xs) = (n ≤ x) × Ascends (x + 1) xs

-- the places from n on that are marked
abbrev pub marked : ℕ → List ℕ → List ℕ
marked n [] = []
marked n (m ∷ ms) = if m == 1 then n ∷ marked (n + 1) ms else marked (n + 1) ms

-- the parts of a closed table fit one another, and a piece that is marked is done
pub record IsReceipt (key : TableKey) (words : List ℕ) (slots : ℕ) (marks : List ℕ) : Type 0 where
  pub fit : IsFit key
  pub wide : length words ≡ (shape_of key).pieces + (shape_of key).cells
  pub no_slots : slots ≡ 0
  pub marks_wide : length marks ≡ (shape_of key).pieces
  pub marked_done : (i : ℕ) → slice_index marks i ≡ 1 → slice_index words i ≡ 2
