-- How a sheet is to be trapped, whatever its tints: strip by strip by rulers, or as a page.
use Rattle.std.specs.Prelude.{◌≡◌, ◌⊎◌, ℕ, ◌+◌, ◌-◌, ◌*◌, ◌<◌, ◌≤◌, max, false, length, IsSome}
use Rattle.std.specs.Prelude.{None}
use Rattle.page_model.specs.declared.parts.PageParts.{PageParts}
use Rattle.page_model.specs.Columns.{halo}
use Rattle.page_model.specs.Limits.{most_samples}
use Rattle.page_model.specs.Page.{plates}
use Rattle.sheet_geometry.specs.declared.budget.Budget.{Budget}
use Rattle.sheet_geometry.specs.CommonErrors.{cut_fault, is_large, most_step}
use Rattle.sheet_geometry.specs.declared.plan.Least.{Least}
use Rattle.sheet_geometry.specs.declared.plan.Plan.{Plan}
use Rattle.sheet_geometry.specs.declared.plan.Plan.TheVariants.{Page, Strips, Windows}
use Rattle.sheet_geometry.specs.declared.plan.Rulers.{Rulers}
use Rattle.sheet_geometry.specs.declared.spans.Ruler.{Ruler}
use Rattle.sheet_geometry.specs.PageRules.{PageRule}
use Rattle.sheet_geometry.specs.Plans.{AreRulers, AreSmall, IsStep}
use Rattle.sheet_geometry.specs.Spans.{IsEvenRuler, IsRuler}

-- the widest halo: three times the widest reach, which is how far keepaway follows thin ink
abbrev pub most_halo : ℕ
most_halo = 384

-- the step by which a sheet is cut: the least one where it has paths, and else a sample
pub record IsStepOf (sheet : PageParts) (step : ℕ) : Type 0 where
  pub some : 1 ≤ step
  pub alone : length sheet.zones ≤ 1 → step ≡ 1
  pub exact : 1 < length sheet.zones → IsStep sheet.resolution step
  pub least : 1 < length sheet.zones
      → (k : ℕ) → 1 ≤ k → k < step → ¬ IsStep sheet.resolution k

-- the least length of a window: a halo on each side, and a step beside
abbrev pub workspace : Ruler → ℕ
workspace ruler = 2 * max 1 ruler.halo + ruler.step

-- the least rows of strips that all have as many: a halo above and below, and two steps less a row
abbrev pub even_workspace : Ruler → ℕ
even_workspace ruler = 2 * max 1 ruler.halo + 2 * ruler.step - 1

-- Rulers that a sheet can be cut by, for windows with that halo, within a budget. Its windows have
-- at least `least` rows, and no more where the budget has fewer.
pub record FitRulers (near : ℕ) (outline : PageParts) (budget : Budget) (least : ℕ)
    (rulers : Rulers) : Type 0 where
  pub fit : AreRulers near outline rulers.across rulers.down
  pub step_across : IsStepOf outline rulers.across.step
  pub step_down : IsStepOf outline rulers.down.step
  pub small : AreSmall outline rulers.across rulers.down
  pub columns : IsRuler rulers.across
  pub rows : IsRuler rulers.down
  pub high : least ≤ rulers.down.most
  pub low : rulers.down.most ≤ max least budget.rows
  pub few_samples : (rulers.across.most ≡ workspace rulers.across)
      ⊎ (rulers.across.most * rulers.down.most * plates outline ≤ budget.samples)

-- Strips of one height where the sheet can be cut. Windows, of all rows at once, where the least
-- window of such a strip has more samples than a page. Where it cannot be cut, it is a page as it
-- stands.
abbrev pub IsPlan : ℕ → PageParts → Budget → Plan → Type 0
IsPlan near outline budget (Strips rulers) = (cut_fault outline ≡ None)
    × FitRulers near outline budget (even_workspace rulers.down) rulers × IsEvenRuler rulers.down
IsPlan near outline budget (Windows rulers) = (cut_fault outline ≡ None)
    × FitRulers near outline budget (workspace rulers.down) rulers
    × (most_samples < workspace rulers.across * even_workspace rulers.down * plates outline)
IsPlan near outline budget Page = IsSome (cut_fault outline) × (is_large outline ≡ false)

-- how a sheet is to be cut for a rule
abbrev pub IsPlanFor : PageRule → PageParts → Budget → Plan → Type 0
IsPlanFor rule outline budget plan = IsPlan (halo (rule.reach outline)) outline budget plan

-- a halo, the step of a sheet, and the least sides of its windows by them
pub record IsLeast (wide : ℕ) (outline : PageParts) (least : Least) : Type 0 where
  pub halo_is : least.halo ≡ wide
  pub near : least.halo ≤ most_halo
  pub step_is : IsStepOf outline least.step
  pub short : least.step ≤ most_step
  pub columns_are : least.columns ≡ 2 * max 1 least.halo + least.step
  pub rows_are : least.rows ≡ 2 * max 1 least.halo + 2 * least.step - 1

-- rulers by that halo and step, for windows of at least `rows` rows
pub record IsCutBy (near : ℕ) (outline : PageParts) (budget : Budget) (least : Least) (rows : ℕ)
    (rulers : Rulers) : Type 0 where
  pub fits : FitRulers near outline budget rows rulers
  pub halo_across : rulers.across.halo ≡ least.halo
  pub step_across : rulers.across.step ≡ least.step
  pub halo_down : rulers.down.halo ≡ least.halo
  pub step_down : rulers.down.step ≡ least.step
