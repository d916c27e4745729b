-- Counts that grow one after another, and row after row.
use Rattle.std.proofs.Common.{◌≡◌, ℕ, zero, suc, ◌+◌, ◌*◌, ◌<◌, ◌≤◌, Bool, ◌&&◌, refl, ◌∙◌, arith, List, length, slice_index, add-one}
use Rattle.std.specs.Prelude.{◌==◌}
use Rattle.std.proofs.Math.Nat.{mul-le-mul_left}
use Rattle.page_model.specs.declared.parts.At.{At}
use Rattle.page_model.specs.declared.parts.PageParts.{PageParts}
use Rattle.page_model.specs.Counts.{plate_changes, sample_changes}
use Rattle.page_model.specs.Deciding.{lower_mark, right_mark}
use Rattle.page_model.specs.Page.{plates}
use Rattle.page_model.specs.Zones.{zone_of}
use Rattle.sheet_geometry.specs.Areas.{area_sum, changes_in, changes_plate, edges_at, lies_in, one_if, traps}
use Rattle.sheet_engine.proofs.RowSums.{one_few, row_few}
use Rattle.sheet_engine.specs.Growth.{AddsArea, AddsRow, Grows, HasWorkspace, HasWorkspaces, row_sum}
use Rattle.sheet_engine.specs.declared.counts.SheetCounts.{SheetCounts}

-- the first k of n counts have grown
pub record AreGrowing (n k : ℕ) (by : ℕ → ℕ) (before counts : List ℕ) : Type 0 where
  pub long : length counts ≡ length before
  pub done : (j : ℕ) → j < k → j < n → slice_index counts j ≡ slice_index before j + by j
  pub rest : (j : ℕ) → k ≤ j → j < n → slice_index counts j ≡ slice_index before j

grows_area : (n left top wide k : ℕ) (f : ℕ → At → ℕ) (before mid after : List ℕ) → Grows n (λ z. area_sum (f z) left top wide k) before mid → Grows n (λ z. row_sum (f z) (top + k) left wide) mid after → Grows n (λ z. area_sum (f z) left top wide (k + 1)) before after
grows_area n left top wide k f before mid after a b = record {
  long = b.long ∙ a.long;
  each = λ z l. (let s = a.each z l in let t = b.each z l in
      let more : area_sum (f z) left top wide (k + 1) ≡ area_sum (f z) left top wide k + row_sum (f z) (top + k) left wide = rw add-one refl in
      omega (arith, s, t, more));
}

grows_nothing : (n left top wide : ℕ) (f : ℕ → At → ℕ) (counts : List ℕ) → Grows n (λ z. area_sum (f z) left top wide 0) counts counts
grows_nothing n left top wide f counts = record { long = refl; each = λ z l. omega arith }

pub area_none : (page : PageParts) (left top wide : ℕ) (counts : SheetCounts) → AddsArea page left top wide 0 counts counts
area_none page left top wide counts = record {
  zone_samples = grows_nothing (length page.zones) left top wide (λ z. lies_in z page) counts.zone_samples.items;
  zone_changed = grows_nothing (length page.zones) left top wide (λ z. changes_in traps z page) counts.zone_changed.items;
  plate_changed = grows_nothing (plates page) left top wide (λ c. changes_plate traps c page) counts.plate_changed.items;
  edges = omega arith;
}

-- one row more
pub area_next : (page : PageParts) (left top wide k : ℕ) (before mid after : SheetCounts) → AddsArea page left top wide k before mid → AddsRow page (top + k) left wide mid after → AddsArea page left top wide (k + 1) before after
area_next page left top wide k before mid after a b = record {
  zone_samples = grows_area (length page.zones) left top wide k (λ z. lies_in z page) before.zone_samples.items mid.zone_samples.items after.zone_samples.items a.zone_samples b.zone_samples;
  zone_changed = grows_area (length page.zones) left top wide k (λ z. changes_in traps z page) before.zone_changed.items mid.zone_changed.items after.zone_changed.items a.zone_changed b.zone_changed;
  plate_changed = grows_area (plates page) left top wide k (λ c. changes_plate traps c page) before.plate_changed.items mid.plate_changed.items after.plate_changed.items a.plate_changed b.plate_changed;
  edges = (let s = a.edges in let t = b.edges in
      let more : area_sum (edges_at page) left top wide (k + 1) ≡ area_sum (edges_at page) left top wide k + row_sum (edges_at page) (top + k) left wide = rw add-one refl in
      omega (arith, s, t, more));
}

pub area_few : (test : At → Bool) (left top wide k : ℕ) → area_sum (λ p. one_if (test p)) left top wide k ≤ wide * k
area_few test left top wide zero = omega arith
area_few test left top wide (suc k) = (let a = area_few test left top wide k in let b = row_few test (top + k) left wide in omega (arith, a, b))

row_edges : (page : PageParts) (y left n : ℕ) → row_sum (edges_at page) y left n ≤ 2 * n
row_edges page y left zero = omega arith
row_edges page y left (suc n) = (let a = row_edges page y left n in let r = one_few (right_mark page y (left + n)) in let l = one_few (lower_mark page y (left + n)) in omega (arith, a, r, l))

pub area_edges : (page : PageParts) (left top wide k : ℕ) → area_sum (edges_at page) left top wide k ≤ 2 * (wide * k)
area_edges page left top wide zero = omega arith
area_edges page left top wide (suc k) = (let a = area_edges page left top wide k in let b = row_edges page (top + k) left wide in omega (arith, a, b))

rows_fit : (wide rows k : ℕ) → k < rows → wide * k + wide ≤ wide * rows
rows_fit wide rows k l = (let t : wide * suc k ≤ wide * rows = mul-le-mul_left wide l in omega (arith, t))

workspace_after : (n left top wide rows k : ℕ) (f : ℕ → At → Bool) (before counts : List ℕ) → HasWorkspace n (wide * rows) before → Grows n (λ z. area_sum (λ p. one_if (f z p)) left top wide k) before counts → k < rows → HasWorkspace n wide counts
workspace_after n left top wide rows k f before counts workspace h l = record {
  long = h.long ∙ workspace.long;
  low = λ z m. (let a = h.each z m in let b = workspace.low z m in let few = area_few (f z) left top wide k in let fit = rows_fit wide rows k l in omega (arith, a, b, few, fit));
}

-- there is room for a row that is still to come
pub workspace_left : (page : PageParts) (left top wide rows k : ℕ) (before counts : SheetCounts) → HasWorkspaces page (wide * rows) before → AddsArea page left top wide k before counts → k < rows → HasWorkspaces page wide counts
workspace_left page left top wide rows k before counts workspace h l = record {
  zone_samples = workspace_after (length page.zones) left top wide rows k (λ z p. zone_of page p == z) before.zone_samples.items counts.zone_samples.items workspace.zone_samples h.zone_samples l;
  zone_changed = workspace_after (length page.zones) left top wide rows k (λ z p. (zone_of page p == z) && sample_changes page p) before.zone_changed.items counts.zone_changed.items workspace.zone_changed h.zone_changed l;
  plate_changed = workspace_after (plates page) left top wide rows k (λ c p. plate_changes page c p) before.plate_changed.items counts.plate_changed.items workspace.plate_changed h.plate_changed l;
  edges = (let a = h.edges in let b = workspace.edges in let few = area_edges page left top wide k in let fit = rows_fit wide rows k l in omega (arith, a, b, few, fit));
}
