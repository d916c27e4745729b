-- The buffers that the windows of a sheet are drawn back in.
use Rattle.std.specs.Prelude.{◌≡◌, ℕ, ◌*◌, ◌<◌, List, length}
use Rattle.page_model.specs.declared.parts.PageParts.{PageParts}
use Rattle.page_model.specs.Planes.{plane_at}
use Rattle.page_tally.specs.Shapes.{Shape}
use Rattle.keepaway.specs.Rows.{IsCover}
use Rattle.keepaway.specs.Workspaces.{IsCoverWorkspace as IsBlackWorkspace}
use Rattle.underprint.specs.Lists.{AreMarks as AreMarksUnderColour}
use Rattle.underprint.specs.Workspaces.{IsCoverWorkspace as IsColourWorkspace}
use Rattle.keep_pages.specs.declared.uses.KeepUse.{KeepUse}
use Rattle.keep_pages.specs.declared.uses.KeepUse.TheVariants.{UnderBlack, UnderColour}
use Rattle.keep_sheets.specs.declared.covers.CoverBuffers.{CoverBuffers}
use Rattle.keep_sheets.specs.declared.covers.CoverBuffers.TheVariants.{Black, Colour}
use Rattle.keep_sheets.specs.declared.workspace.KeepWorkspace.{KeepWorkspace}

-- buffers for the covers of pages of so many columns and rows by that use, whatever cover was found
-- in them last
abbrev pub IsCoverFor : ℕ → ℕ → KeepUse → CoverBuffers → Type 0
IsCoverFor wide tall (UnderBlack rich) (Black buffers) = IsBlackWorkspace wide tall buffers
IsCoverFor wide tall (UnderBlack rich) (Colour buffers) = ⊥
IsCoverFor wide tall (UnderColour whites) (Black buffers) = ⊥
IsCoverFor wide tall (UnderColour whites) (Colour buffers) = IsColourWorkspace wide tall buffers

-- buffers that have the cover of a page by that use
abbrev pub IsCoverOf : PageParts → KeepUse → CoverBuffers → Type 0
IsCoverOf page (UnderBlack rich) (Black buffers) = IsCover page rich.limit buffers.cover
IsCoverOf page (UnderBlack rich) (Colour buffers) = ⊥
IsCoverOf page (UnderColour whites) (Black buffers) = ⊥
IsCoverOf page (UnderColour whites) (Colour buffers) =
    AreMarksUnderColour page whites buffers.marks.items

-- the marks that are in them
abbrev pub marks_in : CoverBuffers → List ℕ
marks_in (Black buffers) = buffers.cover.marks
marks_in (Colour buffers) = buffers.marks.items

-- the buffers were made for pages of that shape and for that use, whatever page was drawn back in
-- them last
pub record IsWorkspaceFor (shape : Shape) (used : KeepUse) (workspace : KeepWorkspace)
    : Type 0 where
  pub cover : IsCoverFor shape.wide shape.tall used workspace.cover
  pub row : length workspace.row.items ≡ shape.wide
  pub count : length workspace.planes ≡ shape.deep
  pub tints : (c : ℕ) → c < shape.deep
      → length (plane_at workspace.planes c).tints ≡ shape.wide * shape.tall
