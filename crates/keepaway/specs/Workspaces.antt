-- The buffers that covers are found in.
use Rattle.std.specs.Prelude.{◌≡◌, ℕ, ◌*◌, length}
use Rattle.keepaway.specs.declared.cover.CoverWorkspace.{CoverWorkspace}

-- buffers for pages of so many columns and rows, whatever cover was found in them last
pub record IsCoverWorkspace (wide tall : ℕ) (workspace : CoverWorkspace) : Type 0 where
  pub spans : workspace.spans.wide ≡ wide
  pub row : length workspace.row.items ≡ wide
  pub levels : length workspace.levels.items ≡ wide * tall
  pub wide_is : workspace.cover.wide ≡ wide
  pub tall_is : workspace.cover.tall ≡ tall
  pub zones : length workspace.cover.zones ≡ wide * tall
  pub marks : length workspace.cover.marks ≡ wide * tall
