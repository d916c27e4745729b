-- A sheet in disjoint areas, in whatever order and form: what is counted in them adds up.
use Rattle.std.specs.Prelude.{◌≡◌, ℕ, ◌+◌, ◌<◌, ◌≤◌, All, List, length, slice_index_or, sum_by}
use Rattle.page_model.specs.declared.parts.At.{At}
use Rattle.page_model.specs.declared.parts.PageParts.{PageParts}
use Rattle.page_model.specs.Counts.{deciding_edges, plate_changed, zone_changed, zone_samples}
use Rattle.page_model.specs.Page.{InPage, height, width}
use Rattle.sheet_geometry.specs.declared.cuts.Cut.{Cut}
use Rattle.sheet_geometry.specs.Areas.{area_sum, changes_in, changes_plate, edges_at, lies_in, traps}

-- stands where there is no area
abbrev pub no_area : Cut
no_area = record { left = 0; top = 0; width = 0; height = 0 }

-- area k
abbrev pub area_at : List Cut → ℕ → Cut
area_at areas k = slice_index_or areas k no_area

-- The sample lies in the area.
pub record LiesWithin (area : Cut) (p : At) : Type 0 where
  pub left : area.left ≤ p.x
  pub right : p.x < area.left + area.width
  pub top : area.top ≤ p.y
  pub bottom : p.y < area.top + area.height

-- The area lies on the sheet.
pub record IsOnSheet (sheet : PageParts) (area : Cut) : Type 0 where
  pub across : area.left + area.width ≤ width sheet
  pub down : area.top + area.height ≤ height sheet

-- The areas lie on the sheet, each of its samples lies in one of them, and none lies in two.
pub record IsCover (sheet : PageParts) (areas : List Cut) : Type 0 where
  pub on_sheet : All (IsOnSheet sheet) areas
  pub covered : (p : At) → InPage sheet p
      → (k : ℕ) × (k < length areas) × LiesWithin (area_at areas k) p
  pub apart : (p : At) (j k : ℕ) → j < length areas → k < length areas
      → LiesWithin (area_at areas j) p → LiesWithin (area_at areas k) p → j ≡ k

-- the sum over the samples of all areas
abbrev pub areas_sum : (PageParts → At → ℕ) → PageParts → List Cut → ℕ
areas_sum f sheet areas = sum_by (λ (area : Cut).
    area_sum (f sheet) area.left area.top area.width area.height) areas

-- each count of the report is the sum of the counts of the areas
pub record CoverLaw (sheet : PageParts) (areas : List Cut) : Type 0 where
  pub zone_samples : (z : ℕ) → zone_samples sheet z ≡ areas_sum (lies_in z) sheet areas
  pub zone_changed : (z : ℕ) → zone_changed sheet z ≡ areas_sum (changes_in traps z) sheet areas
  pub plate_changed : (c : ℕ)
      → plate_changed sheet c ≡ areas_sum (changes_plate traps c) sheet areas
  pub edges : deciding_edges sheet ≡ areas_sum edges_at sheet areas
