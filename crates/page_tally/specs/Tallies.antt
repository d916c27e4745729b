-- An outcome whose planes are put in whole, and to which the counts of rows are added.
use Rattle.std.specs.Prelude.{◌≡◌, ℕ, ◌+◌, ◌*◌, ◌≤◌, List, length}
use Rattle.page_model.specs.declared.parts.PageParts.{PageParts}
use Rattle.page_model.specs.Page.{height, plates, width}
use Rattle.lists.specs.Words.{sum_below}
use Rattle.page_tally.specs.declared.outcome.Outcome.{Outcome}
use Rattle.page_tally.specs.Standing.{ArePlatesCounted, AreSamplesCounted, AreTrappedTo}
use Rattle.page_tally.specs.Standing.{AreZonesCounted, edges_of}

-- what is counted in the rows from `first` on and before another: by zones the samples and those
-- that change, and the edges
pub record AreRowsCounted (page : PageParts) (first to : ℕ) (samples changed : List ℕ)
    (count : ℕ) : Type 0 where
  pub zone_samples : AreSamplesCounted page first (to * width page) samples
  pub zone_changed : AreZonesCounted page first (to * width page) changed
  pub edges : count + sum_below (edges_of page) (first * width page)
      ≡ sum_below (edges_of page) (to * width page)
  pub few_edges : count + 128 * (first * width page) ≤ 128 * (to * width page)

-- the counts by zones and of edges are those of the first rows; planes and the counts of plates
-- are still to be put in
pub record HasTallies (page : PageParts) (rows : ℕ) (outcome : Outcome) : Type 0 where
  pub planes : length outcome.planes ≡ plates page
  pub plate_changed : length outcome.plate_changed.items ≡ plates page
  pub zone_samples : AreSamplesCounted page 0 (rows * width page) outcome.zone_samples.items
  pub zone_changed : AreZonesCounted page 0 (rows * width page) outcome.zone_changed.items
  pub edges : outcome.edges ≡ sum_below (edges_of page) (rows * width page)
  pub few_edges : outcome.edges ≤ 128 * (rows * width page)
  pub changes : length outcome.changes.items ≡ width page

-- all plates are put in with the counts of what changes in each; the counts by zones and of
-- edges are those of the first rows
pub record HasPlates (page : PageParts) (rows : ℕ) (outcome : Outcome) : Type 0 where
  pub planes : AreTrappedTo page outcome.planes (height page * width page)
  pub plate_changed : ArePlatesCounted page (height page * width page) outcome.plate_changed.items
  pub counted : HasTallies page rows outcome
