-- The buffers that covers are found in.
use Rattle.std.specs.Prelude.{◌≡◌, ℕ, ◌*◌, length}
use Rattle.underprint.specs.declared.cover.CoverWorkspace.{CoverWorkspace}

-- buffers for pages of so many columns and rows, whatever cover was found in them last
pub record IsCoverWorkspace (wide tall : ℕ) (workspace : CoverWorkspace) : Type 0 where
  pub sums : length workspace.sums.items ≡ wide
  pub row : length workspace.row.items ≡ wide
  pub levels : length workspace.levels.items ≡ wide * tall
  pub marks : length workspace.marks.items ≡ wide * tall
