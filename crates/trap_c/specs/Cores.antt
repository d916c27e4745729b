-- The core of a window: its new tints in the samples, and what is counted in it.
use Rattle.std.specs.Prelude.{◌≡◌, ◌⊎◌, ℕ, ◌+◌, ◌*◌, ◌<◌, ◌≤◌, List, length, replicate, slice_index}
use Rattle.lists.specs.Words.{list_below}
use Rattle.page_model.specs.declared.parts.At.{At}
use Rattle.page_model.specs.declared.parts.Counts.{Counts}
use Rattle.page_model.specs.declared.parts.PageParts.{PageParts}
use Rattle.page_model.specs.declared.parts.Plane.{Plane}
use Rattle.page_model.specs.Page.{plates}
use Rattle.page_model.specs.Planes.{plane_at}
use Rattle.sheet_geometry.specs.declared.cuts.Cut.{Cut}
use Rattle.sheet_geometry.specs.Areas.{area_sum, changes_in, changes_plate, edges_at, lies_in, traps}
use Rattle.sheet_engine.specs.declared.counts.SheetCounts.{SheetCounts}
use Rattle.trap_c.specs.declared.layout.Layout.{Layout}

-- the sum over the samples of a core
abbrev pub sum_over : Cut → (At → ℕ) → ℕ
sum_over core f = area_sum f core.left core.top core.width core.height

-- what a report says of a core
abbrev pub core_counts : PageParts → Cut → Counts
core_counts page core = record {
  zone_samples = list_below (λ z. sum_over core (lies_in z page)) (length page.zones);
  zone_changed = list_below (λ z. sum_over core (changes_in traps z page)) (length page.zones);
  edges = sum_over core (edges_at page);
  plate_changed = list_below (λ c. sum_over core (changes_plate traps c page)) (plates page);
}

-- counts of a page that are all 0
pub record AreNone (page : PageParts) (counts : SheetCounts) : Type 0 where
  pub zone_samples : counts.zone_samples.items ≡ replicate (length page.zones) 0
  pub zone_changed : counts.zone_changed.items ≡ replicate (length page.zones) 0
  pub plate_changed : counts.plate_changed.items ≡ replicate (plates page) 0
  pub edges : counts.edges ≡ 0

-- a core that lies in a window of that layout
pub record IsIn (layout : Layout) (core : Cut) : Type 0 where
  pub across : core.left + core.width ≤ layout.width
  pub down : core.top + core.height ≤ layout.height

-- where row y of the core begins, in the tints of a plane
abbrev pub tint_run : Layout → Cut → ℕ → ℕ
tint_run layout core y = (core.top + y) * layout.width + core.left

-- and in the samples, of plane c
abbrev pub core_run : Layout → Cut → ℕ → ℕ → ℕ
core_run layout core c y = (c * layout.height + (core.top + y)) * layout.step + core.left

-- sample k is none of the `wide` samples from `from` on
abbrev pub IsBeside : ℕ → ℕ → ℕ → Type 0
IsBeside k from wide = (k < from) ⊎ (from + wide ≤ k)

-- The core of plane c, of these tints, stands in the samples, down to a row; all that lies in no
-- such row of it is as it was.
pub record HasCoreTo (layout : Layout) (core : Cut) (tints before after : List ℕ) (c rows : ℕ)
    : Type 0 where
  pub inside : (y x : ℕ) → y < rows → x < core.width
      → slice_index after (core_run layout core c y + x)
      ≡ slice_index tints (tint_run layout core y + x)
  pub rest : (k : ℕ) → ((y : ℕ) → y < rows → IsBeside k (core_run layout core c y) core.width)
      → slice_index after k ≡ slice_index before k

-- the cores of the first planes do, and all that lies in no row of one of them is as it was
pub record HaveCores (layout : Layout) (core : Cut) (planes : List Plane)
    (before after : List ℕ) (count : ℕ) : Type 0 where
  pub inside : (c y x : ℕ) → c < count → y < core.height → x < core.width
      → slice_index after (core_run layout core c y + x)
      ≡ slice_index (plane_at planes c).tints (tint_run layout core y + x)
  pub rest : (k : ℕ) → ((c y : ℕ) → c < count → y < core.height
      → IsBeside k (core_run layout core c y) core.width)
      → slice_index after k ≡ slice_index before k

-- `count` items of a list, from item `from` on
pub record IsRun (items : List ℕ) (from count : ℕ) (run : List ℕ) : Type 0 where
  pub long : length run ≡ count
  pub each : (x : ℕ) → x < count → slice_index run x ≡ slice_index items (from + x)

-- the same counts
pub record HasCounts (counts : SheetCounts) (same : Counts) : Type 0 where
  pub zone_samples : same.zone_samples ≡ counts.zone_samples.items
  pub zone_changed : same.zone_changed ≡ counts.zone_changed.items
  pub plate_changed : same.plate_changed ≡ counts.plate_changed.items
  pub edges : same.edges ≡ counts.edges
