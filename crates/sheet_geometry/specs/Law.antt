-- What of a sheet rests on all of it but its tints.
use Rattle.std.specs.Prelude.{◌≡◌, ℕ}
use Rattle.page_model.specs.declared.parts.PageParts.{PageParts}
use Rattle.page_model.specs.Page.{height, maxval, plates, width}
use Rattle.page_model.specs.Reach.{page_reach}
use Rattle.sheet_geometry.specs.declared.budget.Budget.{Budget}
use Rattle.sheet_geometry.specs.CommonErrors.{cut_fault, is_large, parts_fault, sheet_error}
use Rattle.sheet_geometry.specs.declared.plan.Plan.{Plan}
use Rattle.sheet_geometry.specs.Planned.{IsPlan}
use Rattle.sheet_geometry.specs.Outline.{IsOutlineSheet, outline_sheet}
use Rattle.sheet_geometry.specs.Sheets.{IsSheet}

-- its sides, its error, its reach, and each plan for it
pub record OutlineLaw (sheet : PageParts) : Type 0 where
  pub plates : plates (outline_sheet sheet) ≡ plates sheet
  pub width : width (outline_sheet sheet) ≡ width sheet
  pub height : height (outline_sheet sheet) ≡ height sheet
  pub maxval : maxval (outline_sheet sheet) ≡ maxval sheet
  pub parts_fault : parts_fault (outline_sheet sheet) ≡ parts_fault sheet
  pub cut_fault : cut_fault (outline_sheet sheet) ≡ cut_fault sheet
  pub is_large : is_large (outline_sheet sheet) ≡ is_large sheet
  pub same_error : sheet_error (outline_sheet sheet) ≡ sheet_error sheet
  pub reach : page_reach (outline_sheet sheet) ≡ page_reach sheet
  pub plan : (near : ℕ) (budget : Budget) (plan : Plan)
      → IsPlan near (outline_sheet sheet) budget plan → IsPlan near sheet budget plan
  pub outline : IsSheet sheet → IsOutlineSheet (outline_sheet sheet)
