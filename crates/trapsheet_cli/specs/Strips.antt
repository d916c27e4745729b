-- Sheets of which no strips of one height can be cut.
use Rattle.std.specs.Prelude.{◌⊎◌, ◌*◌, ◌<◌, IsSome, List}
use Rattle.sheet_geometry.specs.Areas.{traps}
use Rattle.sheet_geometry.specs.Outline.{outline_sheet}
use Rattle.sheet_geometry.specs.Planned.{IsStepOf, even_workspace, workspace}
use Rattle.sheet_geometry.specs.declared.plan.Rulers.{Rulers}
use Rattle.outside.specs.Tray.{TrayState}
use Rattle.page_files.specs.Inputs.{Sources}
use Rattle.page_model.specs.declared.parts.PageParts.{PageParts}
use Rattle.page_model.specs.Limits.{most_samples}
use Rattle.page_model.specs.Page.{plates}
use Rattle.sheet_geometry.specs.CommonErrors.{cut_fault}
use Rattle.sheet_files.specs.Gathering.{IsMadeSheet}
use Rattle.sheet_geometry.specs.Plans.{AreRulersFor}

-- By rulers of this sheet, with its own halo and step, the least window of a strip has more samples
-- than a page.
pub record AreTooLarge (outline : PageParts) (rulers : Rulers) : Type 0 where
  pub fit : AreRulersFor traps outline rulers.across rulers.down
  pub step_across : IsStepOf outline rulers.across.step
  pub step_down : IsStepOf outline rulers.down.step
  pub large : most_samples < workspace rulers.across * even_workspace rulers.down * plates outline

-- It cannot be cut, or not into strips of one height.
abbrev pub HasNoStrips : PageParts → Type 0
HasNoStrips outline = IsSome (cut_fault outline) ⊎ ((rulers : Rulers) × AreTooLarge outline rulers)

-- Such a sheet is made of the files.
pub record IsWhole (source : Sources) (trays : List TrayState) : Type 0 where
  pub sheet : PageParts
  pub made : IsMadeSheet source trays sheet
  pub whole : HasNoStrips (outline_sheet sheet)
