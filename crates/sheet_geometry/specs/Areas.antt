-- Sums over rectangles of samples, and the counts of a page as such sums.
use Rattle.std.specs.Prelude.{◌≡◌, ℕ, ◌+◌, Bool, ◌&&◌, not, ◌==◌, if◌then◌else◌}
use Rattle.page_model.specs.declared.parts.At.{At}
use Rattle.page_model.specs.declared.parts.PageParts.{PageParts}
use Rattle.lists.specs.Words.{any_below, sum_below}
use Rattle.page_model.specs.Counts.{deciding_edges, plate_changed, zone_changed, zone_samples}
use Rattle.page_model.specs.Deciding.{lower_mark, right_mark}
use Rattle.page_model.specs.Page.{height, plates, tint, width}
use Rattle.page_model.specs.Reach.{page_reach}
use Rattle.page_model.specs.Tints.{new}
use Rattle.page_model.specs.Zones.{zone_of}
use Rattle.sheet_geometry.specs.PageRules.{PageRule}

-- the sum over `wide` columns and `tall` rows from a sample on
abbrev pub area_sum : (At → ℕ) → ℕ → ℕ → ℕ → ℕ → ℕ
area_sum f left top wide tall =
    sum_below (λ y. sum_below (λ x. f (record { x = left + x; y = top + y })) wide) tall

-- 1 where a test passes
abbrev pub one_if : Bool → ℕ
one_if b = if b then 1 else 0

-- plate c has another tint at the sample than before
abbrev pub is_new : PageRule → PageParts → At → ℕ → Bool
is_new rule page p c = not (rule.tint page p c == tint page c p)

-- what a report counts at one sample: that it lies in zone z, that it changes there, and that plate
-- c changes
abbrev pub lies_in : ℕ → PageParts → At → ℕ
lies_in z page p = one_if (zone_of page p == z)

abbrev pub changes_in : PageRule → ℕ → PageParts → At → ℕ
changes_in rule z page p =
    one_if ((zone_of page p == z) && any_below (is_new rule page p) (plates page))

abbrev pub changes_plate : PageRule → ℕ → PageParts → At → ℕ
changes_plate rule c page p = one_if (is_new rule page p c)

-- the deciding edges to the right of a sample and below it
abbrev pub edges_at : PageParts → At → ℕ
edges_at page p = one_if (right_mark page p.y p.x) + one_if (lower_mark page p.y p.x)

-- the trapping rule, by which deciding edges are counted
abbrev pub traps : PageRule
traps = record { reach = page_reach; tint = new; mark = edges_at }

-- the sum over all samples of a page
abbrev pub page_sum : (PageParts → At → ℕ) → PageParts → ℕ
page_sum f page = area_sum (f page) 0 0 (width page) (height page)

-- the counts of a page that is trapped are sums over its samples
pub record CountsBySamples (page : PageParts) : Type 0 where
  pub zone_samples : (z : ℕ) → zone_samples page z ≡ page_sum (lies_in z) page
  pub zone_changed : (z : ℕ) → zone_changed page z ≡ page_sum (changes_in traps z) page
  pub plate_changed : (c : ℕ) → plate_changed page c ≡ page_sum (changes_plate traps c) page
  pub edges : deciding_edges page ≡ page_sum edges_at page
