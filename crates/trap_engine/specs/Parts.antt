-- The page's rows in parts, each of which is counted by itself.
use Rattle.std.specs.Prelude.{◌≡◌, ℕ, ◌+◌, ◌-◌, ◌<◌, ◌≤◌, false, true, All, List, length, min}
use Rattle.std.specs.Prelude.{slice_index_or}
use Rattle.band_claims.specs.Seating.{OpenTable, Seats}
use Rattle.page_model.specs.declared.parts.PageParts.{PageParts}
use Rattle.page_model.specs.Page.{height}
use Rattle.trap_engine.specs.declared.parts.Part.{Part}
use Rattle.trap_engine.specs.Taking.{HasCounted}

-- all is counted in the part's rows, which lie in the page
pub record IsCounted (page : PageParts) (part : Part) : Type 0 where
  pub inside : part.rows.first + part.rows.count ≤ height page
  pub counted : HasCounted page part.rows.first (part.rows.first + part.rows.count) part.tally

-- the part's rows lie in the page; all is counted in them where it is done, and nothing where it
-- is not
pub record IsPart (page : PageParts) (part : Part) : Type 0 where
  pub inside : part.rows.first + part.rows.count ≤ height page
  pub begun : part.done ≡ false → HasCounted page part.rows.first part.rows.first part.tally
  pub ended : part.done ≡ true
      → HasCounted page part.rows.first (part.rows.first + part.rows.count) part.tally

-- the rows of the parts follow one another, from the page's first to its last
pub record CoverPage (page : PageParts) (parts : List Part) : Type 0 where
  pub some : 1 ≤ length parts
  pub first : (d : Part) → (slice_index_or parts 0 d).rows.first ≡ 0
  pub next : (i : ℕ) (d : Part) → i + 1 < length parts
      → (slice_index_or parts (i + 1) d).rows.first
      ≡ (slice_index_or parts i d).rows.first + (slice_index_or parts i d).rows.count
  pub last : (i : ℕ) (d : Part) → i + 1 ≡ length parts
      → (slice_index_or parts i d).rows.first + (slice_index_or parts i d).rows.count ≡ height page

-- each part has `size` rows, or those that are left, where they are fewer
abbrev pub AreOfSize : PageParts → ℕ → List Part → Type 0
AreOfSize page size parts = (i : ℕ) (d : Part) → i < length parts
    → (slice_index_or parts i d).rows.count
    ≡ min (height page - (slice_index_or parts i d).rows.first) size

-- the parts of a page
pub record AreParts (page : PageParts) (parts : List Part) : Type 0 where
  pub cover : CoverPage page parts
  pub each : (i : ℕ) (d : Part) → i < length parts → IsPart page (slice_index_or parts i d)

-- and all is counted in each
pub record AreCountedParts (page : PageParts) (parts : List Part) : Type 0 where
  pub cover : CoverPage page parts
  pub each : (i : ℕ) (d : Part) → i < length parts → IsCounted page (slice_index_or parts i d)

-- each has a seat of this table
abbrev pub AreSeatedParts : OpenTable → List Part → Type 0
AreSeatedParts shared parts = All (λ (part : Part). Seats shared part.reader) parts
