-- The room that pages of one shape are trapped in.
use Rattle.std.specs.Prelude.{◌≡◌, ◌*◌, ◌-◌, length}
use Rattle.page_tally.specs.Shapes.{HasShape, Shape}
use Rattle.strip_engine.specs.StripBuffers.{HasPlaces}
use Rattle.strip_engine.specs.declared.workspace.PageWorkspace.{PageWorkspace}

-- the room was made for pages of that shape, whatever page was trapped in it last
pub record IsWorkspaceFor (shape : Shape) (workspace : PageWorkspace) : Type 0 where
  pub wide : workspace.row_buffers.wide ≡ shape.wide
  pub deep : workspace.row_buffers.deep ≡ shape.deep
  pub codes : length workspace.codes.items ≡ 64 * (2 * shape.wide - 1)
  pub buffers : HasPlaces shape workspace.buffers
  pub outcome : HasShape shape workspace.outcome
