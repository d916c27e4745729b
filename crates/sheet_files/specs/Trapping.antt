-- A sheet that can be trapped as it is planned, and its planes and counts after trapping.
use Rattle.std.specs.Prelude.{◌≡◌, ℕ, ◌<◌, List, [], length, slice_index_or}
use Rattle.sheet_geometry.specs.Areas.{traps}
use Rattle.sheet_geometry.specs.declared.plan.Plan.{Plan}
use Rattle.sheet_geometry.specs.declared.plan.Plan.TheVariants.{Page, Strips, Windows}
use Rattle.sheet_geometry.specs.declared.plan.Rulers.{Rulers}
use Rattle.page_model.specs.Conditions.{IsPage}
use Rattle.page_model.specs.declared.parts.PageParts.{PageParts}
use Rattle.page_model.specs.declared.parts.Plane.{Plane}
use Rattle.page_model.specs.Page.{height, maxval, plates, width}
use Rattle.page_model.specs.Tints.{new_tints}
use Rattle.sheet_engine.specs.Whole.{IsCounted}
use Rattle.sheet_files.specs.declared.whole.TrappedSheet.{TrappedSheet}
use Rattle.sheet_geometry.specs.Plans.{AreRulersFor, AreSmall}
use Rattle.sheet_geometry.specs.Spans.{IsRuler}
use Rattle.sheet_geometry.specs.WindowSheets.{IsCuttable}

-- a sheet that these rulers cut into windows
pub record CanCut (sheet : PageParts) (rulers : Rulers) : Type 0 where
  pub cuttable : IsCuttable sheet
  pub fit : AreRulersFor traps sheet rulers.across rulers.down
  pub small : AreSmall sheet rulers.across rulers.down
  pub columns : IsRuler rulers.across
  pub rows : IsRuler rulers.down

-- a sheet that can be trapped as it is planned
abbrev pub CanTrap : PageParts → Plan → Type 0
CanTrap sheet (Strips rulers) = CanCut sheet rulers
CanTrap sheet (Windows rulers) = CanCut sheet rulers
CanTrap sheet Page = IsPage sheet

-- a plane of a sheet's sides and maxval
abbrev pub plane_with : PageParts → List ℕ → Plane
plane_with sheet tints = record {
  width = width sheet;
  height = height sheet;
  maxval = maxval sheet;
  tints = tints;
}

-- the new tints of each plate, and what is counted
pub record IsTrappedSheet (sheet : PageParts) (trapped : TrappedSheet) : Type 0 where
  pub count : length trapped.tints ≡ plates sheet
  pub tints : (c : ℕ) → c < plates sheet
      → slice_index_or trapped.tints c [] ≡ new_tints sheet c
  pub counts : IsCounted sheet trapped.counts
