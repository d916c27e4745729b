-- Keepaway of either use as a rule of a page, and the tiles of a sheet by it.
use Rattle.std.specs.Prelude.{◌≡◌, ℕ, ◌≤◌}
use Rattle.page_model.specs.declared.parts.At.{At}
use Rattle.page_model.specs.declared.parts.PageParts.{PageParts}
use Rattle.page_model.specs.Columns.{halo}
use Rattle.sheet_geometry.specs.declared.cuts.Cut.{Cut}
use Rattle.sheet_geometry.specs.Areas.{changes_plate}
use Rattle.sheet_geometry.specs.PageRules.{IsLocal, PageRule}
use Rattle.sheet_geometry.specs.Tiles.{rule_tints}
use Rattle.keep_windows.specs.KeepRules.{under_black, under_colour}
use Rattle.keep_pages.specs.declared.uses.KeepUse.{KeepUse}
use Rattle.keep_pages.specs.declared.uses.KeepUse.TheVariants.{UnderBlack, UnderColour}
use Rattle.keep_pages.specs.KeptPages.{kept, kept_tints}
use Rattle.keep_sheets.specs.KeepSheets.{IsHalo, changes_at, core_sum, covers_at}

-- the rule of a use
abbrev pub keep_rule : KeepUse → PageRule
keep_rule (UnderBlack rich) = under_black rich
keep_rule (UnderColour whites) = under_colour whites

-- The rule is local. Its new tints are those of keepaway, and what is counted in a core by it are
-- the covered pixels and those that change.
pub record KeepRuleLaw (used : KeepUse) : Type 0 where
  pub local : IsLocal (keep_rule used)
  pub tint : (page : PageParts) (p : At) (c : ℕ)
      → (keep_rule used).tint page p c ≡ kept page used c p
  pub tints : (page : PageParts) (c : ℕ)
      → rule_tints (keep_rule used) page c ≡ kept_tints page used c
  pub covers : (page : PageParts) (core : Cut) → core_sum (covers_at used page) core
      ≡ core_sum ((keep_rule used).mark page) core
  pub changes : (page : PageParts) (core : Cut) (c : ℕ) → core_sum (changes_at used c page) core
      ≡ core_sum (changes_plate (keep_rule used) c page) core

-- The least halo is that of the rule's reach.
pub record KeepHaloLaw (page : PageParts) (used : KeepUse) : Type 0 where
  pub enough : IsHalo page.resolution used (halo ((keep_rule used).reach page))
  pub least : (n : ℕ) → IsHalo page.resolution used n → halo ((keep_rule used).reach page) ≤ n
