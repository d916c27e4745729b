-- The result as it is taken out of a table: plate by plate, and then counted.
use Rattle.std.specs.Prelude.{◌≡◌, ℕ, ◌*◌, ◌<◌, ◌≤◌, false, true, All, List, [], length}
use Rattle.std.specs.Prelude.{slice_index, slice_index_or, vec_capacity}
use Rattle.band_claims.specs.Seating.{OpenTable, Seats}
use Rattle.page_model.specs.declared.parts.PageParts.{PageParts}
use Rattle.page_model.specs.Counts.{plate_changes}
use Rattle.page_model.specs.Page.{height, plates, sample_at, samples, width}
use Rattle.page_model.specs.Tints.{new}
use Rattle.lists.specs.Words.{count_below}
use Rattle.page_tally.specs.Tallies.{AreRowsCounted}
use Rattle.trap_engine.specs.declared.plates.PlateWork.{PlateWork}
use Rattle.trap_engine.specs.declared.tally.Tally.{Tally}

-- these are the new tints of plate c in the page's first n samples
pub record HasTaken (page : PageParts) (c n : ℕ) (tints : List ℕ) : Type 0 where
  pub long : length tints ≡ n
  pub each : (k : ℕ) → k < n → slice_index tints k ≡ new page (sample_at page k) c

-- these are all new tints of plate c, and `changed` of its samples change
pub record IsTakenPlate (page : PageParts) (c : ℕ) (tints : List ℕ) (changed : ℕ) : Type 0 where
  pub taken : HasTaken page c (height page * width page) tints
  pub counted : changed
      ≡ count_below (λ k. plate_changes page c (sample_at page k)) (height page * width page)

-- plate c is taken where the work is done; where it is not there is room for its tints
pub record IsPlateWork (page : PageParts) (c : ℕ) (work : PlateWork) : Type 0 where
  pub row : length work.row.items ≡ width page
  pub none : work.done ≡ false → work.tints.items ≡ []
  pub workspace : work.done ≡ false → samples page ≤ vec_capacity work.tints
  pub ended : work.done ≡ true → IsTakenPlate page c work.tints.items work.changed

-- the works of all plates
pub record ArePlateWorks (page : PageParts) (works : List PlateWork) : Type 0 where
  pub count : length works ≡ plates page
  pub each : (c : ℕ) (d : PlateWork) → c < plates page
      → IsPlateWork page c (slice_index_or works c d)

-- and all plates are taken
pub record AreTakenPlates (page : PageParts) (works : List PlateWork) : Type 0 where
  pub count : length works ≡ plates page
  pub each : (c : ℕ) (d : PlateWork) → c < plates page
      → IsTakenPlate page c (slice_index_or works c d).tints.items
      (slice_index_or works c d).changed

-- each has a seat of this table
abbrev pub AreSeatedWorks : OpenTable → List PlateWork → Type 0
AreSeatedWorks shared works = All (λ (work : PlateWork). Seats shared work.reader) works

-- the tally has what is counted in the rows from `first` on and before another
pub record HasCounted (page : PageParts) (first to : ℕ) (tally : Tally) : Type 0 where
  pub zones : length tally.zones.items ≡ width page
  pub marks : length tally.marks.items ≡ width page
  pub changes : length tally.changes.items ≡ width page
  pub counted : AreRowsCounted page first to tally.zone_samples.items tally.zone_changed.items
      tally.edges
