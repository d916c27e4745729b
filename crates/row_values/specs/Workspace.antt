-- What contracts see of a workspace.
use Rattle.std.specs.Prelude.{◌≡◌, ℕ}
use Rattle.page_model.specs.declared.parts.PageParts.{PageParts}
use Rattle.page_model.specs.Page.{plates, width}
use Rattle.row_envelope.specs.Workspace.{Workspace as HullWorkspace}
use Rattle.zone_map.specs.Workspace.{Workspace as SpanWorkspace}

-- the samples of a row and the plates that a workspace was made for, and how much memory it has:
-- for arms, for their columns, for the place of each sample's nearest arm, for tints, for
-- crossings and
-- for the hull
pub record Workspace : Type 0 where
  pub wide : ℕ
  pub deep : ℕ
  pub arms : ℕ
  pub columns : ℕ
  pub places : ℕ
  pub tints : ℕ
  pub spans : SpanWorkspace
  pub hull : HullWorkspace

-- the workspace was made for pages of these sides
pub record Serves (workspace : Workspace) (page : PageParts) : Type 0 where
  pub wide : workspace.wide ≡ width page
  pub deep : workspace.deep ≡ plates page
