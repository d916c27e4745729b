-- Planes that are trapped up to a sample, and are as they were after it.
use Rattle.std.specs.Prelude.{◌≡◌, ℕ, ◌+◌, ◌*◌, ◌/◌, ◌%◌, ◌<◌, ◌≤◌, ◌&&◌, ◌==◌, List, length}
use Rattle.std.specs.Prelude.{slice_index, vec_capacity}
use Rattle.page_model.specs.declared.parts.PageParts.{PageParts}
use Rattle.page_model.specs.declared.parts.Plane.{Plane}
use Rattle.page_model.specs.Counts.{plate_changes, sample_changes}
use Rattle.page_model.specs.Deciding.{mark}
use Rattle.page_model.specs.Page.{height, maxval, plates, sample_at, samples, tint, width}
use Rattle.page_model.specs.Planes.{plane_at}
use Rattle.page_model.specs.Tints.{new}
use Rattle.page_model.specs.Zones.{zone_of}
use Rattle.lists.specs.Words.{count_below, sum_below}
use Rattle.page_tally.specs.declared.outcome.Outcome.{Outcome}

-- plate c of the page with new tints in its first n samples, and its own tints in the others
pub record IsTrappedTo (page : PageParts) (c n : ℕ) (plane : Plane) : Type 0 where
  pub wide : plane.width ≡ width page
  pub tall : plane.height ≡ height page
  pub deep : plane.maxval ≡ maxval page
  pub long : length plane.tints ≡ samples page
  pub done : (k : ℕ) → k < n → slice_index plane.tints k ≡ new page (sample_at page k) c
  pub rest : (k : ℕ) → n ≤ k → k < samples page
      → slice_index plane.tints k ≡ tint page c (sample_at page k)

-- all plates of the page, trapped up to sample n
pub record AreTrappedTo (page : PageParts) (planes : List Plane) (n : ℕ) : Type 0 where
  pub count : length planes ≡ plates page
  pub each : (c : ℕ) → c < plates page → IsTrappedTo page c n (plane_at planes c)

-- the first c plates are trapped w samples further than the others, which are trapped up to
-- sample n
pub record AreTrapping (page : PageParts) (planes : List Plane) (n w c : ℕ) : Type 0 where
  pub count : length planes ≡ plates page
  pub done : (j : ℕ) → j < c → j < plates page → IsTrappedTo page j (n + w) (plane_at planes j)
  pub rest : (j : ℕ) → c ≤ j → j < plates page → IsTrappedTo page j n (plane_at planes j)

-- the new tints of row y, plate after plate
pub record IsNewRow (page : PageParts) (y : ℕ) (row : List ℕ) : Type 0 where
  pub long : length row ≡ plates page * width page
  pub each : (c x : ℕ) → c < plates page → x < width page
      → slice_index row (c * width page + x) ≡ new page (record { x = x; y = y }) c

-- the new tints of plate c in row y
pub record IsPlateRow (page : PageParts) (y c : ℕ) (row : List ℕ) : Type 0 where
  pub long : length row ≡ width page
  pub each : (x : ℕ) → x < width page → slice_index row x ≡ new page (record { x = x; y = y }) c

-- the page's own tints of plate c in row y
pub record IsTintRow (page : PageParts) (y c : ℕ) (row : List ℕ) : Type 0 where
  pub long : length row ≡ width page
  pub each : (x : ℕ) → x < width page → slice_index row x ≡ tint page c (record { x = x; y = y })

-- for each plate how many of the first n samples change
pub record ArePlatesCounted (page : PageParts) (n : ℕ) (counts : List ℕ) : Type 0 where
  pub long : length counts ≡ plates page
  pub each : (c : ℕ) → c < plates page
      → slice_index counts c ≡ count_below (λ k. plate_changes page c (sample_at page k)) n

-- for each zone how many samples lie in it and change, of those from row `first` on and before
-- sample n
pub record AreZonesCounted (page : PageParts) (first n : ℕ) (counts : List ℕ) : Type 0 where
  pub long : length counts ≡ length page.zones
  pub each : (z : ℕ) → z < length page.zones
      → slice_index counts z
      + count_below (λ i. (zone_of page (sample_at page i) == z)
      && sample_changes page (sample_at page i)) (first * width page)
      ≡ count_below (λ i. (zone_of page (sample_at page i) == z)
      && sample_changes page (sample_at page i)) n

-- for each zone how many samples lie in it, of those from row `first` on and before sample n
pub record AreSamplesCounted (page : PageParts) (first n : ℕ) (counts : List ℕ) : Type 0 where
  pub long : length counts ≡ length page.zones
  pub each : (z : ℕ) → z < length page.zones
      → slice_index counts z
      + count_below (λ i. zone_of page (sample_at page i) == z) (first * width page)
      ≡ count_below (λ i. zone_of page (sample_at page i) == z) n

-- how many edges of sample k decide: those to its right and below it
abbrev pub edges_of : PageParts → ℕ → ℕ
edges_of page k = mark page (k / width page) (k % width page) % 2
    + mark page (k / width page) (k % width page) / 2

-- the marks of the samples of row y
pub record AreMarks (page : PageParts) (y : ℕ) (marks : List ℕ) : Type 0 where
  pub wide : length marks ≡ width page
  pub each : (x : ℕ) → x < width page → slice_index marks x ≡ mark page y x

-- no tint of row y changes
abbrev pub KeepsRow : PageParts → ℕ → Type 0
KeepsRow page y = (c x : ℕ) → c < plates page → x < width page
    → new page (record { x = x; y = y }) c ≡ tint page c (record { x = x; y = y })

-- the first rows of the page are taken in: their new tints, and all that is counted in them
pub record HasRows (page : PageParts) (rows : ℕ) (outcome : Outcome) : Type 0 where
  pub planes : AreTrappedTo page outcome.planes (rows * width page)
  pub zone_samples : AreSamplesCounted page 0 (rows * width page) outcome.zone_samples.items
  pub zone_changed : AreZonesCounted page 0 (rows * width page) outcome.zone_changed.items
  pub plate_changed : ArePlatesCounted page (rows * width page) outcome.plate_changed.items
  pub edges : outcome.edges ≡ sum_below (edges_of page) (rows * width page)
  pub few_edges : outcome.edges ≤ 128 * (rows * width page)
  pub changes : length outcome.changes.items ≡ width page

-- the lists that an outcome counts in have the room that they had
pub record KeepsWorkspace (before after : Outcome) : Type 0 where
  pub zone_samples : vec_capacity after.zone_samples ≡ vec_capacity before.zone_samples
  pub zone_changed : vec_capacity after.zone_changed ≡ vec_capacity before.zone_changed
  pub plate_changed : vec_capacity after.plate_changed ≡ vec_capacity before.plate_changed
  pub changes : vec_capacity after.changes ≡ vec_capacity before.changes
