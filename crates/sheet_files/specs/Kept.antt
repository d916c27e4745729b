-- The buffers of the strip before are kept for the next strip.
use Rattle.std.specs.Prelude.{◌≡◌, List}
use Rattle.sheet_files.specs.declared.whole.KeptWorkspace.{KeptWorkspace}
use Rattle.sheet_geometry.specs.declared.spans.Span.{Span}
use Rattle.sheet_engine.specs.Workspaces.{IsStripWorkspace, columns_in}
use Rattle.sheet_geometry.specs.Forms.{Form}

-- a room that was made for strips of that form, cut into these columns
pub record IsKept (form : Form) (columns : List Span) (kept : KeptWorkspace) : Type 0 where
  pub columns_are : columns_in kept.workspace ≡ columns
  pub workspace : IsStripWorkspace form kept.tall kept.workspace
