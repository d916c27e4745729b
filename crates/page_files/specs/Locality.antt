-- Where a trap may lie: the samples that change are near the edge that they answer to.
use Rattle.std.specs.Prelude.{◌≡◌, ◌≢◌, ℕ, ◌*◌, ◌<◌, ◌≤◌, true, false, List, slice_index_or, Some}
use Rattle.page_model.specs.declared.parts.At.{At}
use Rattle.page_model.specs.declared.parts.EdgeAt.{EdgeAt}
use Rattle.page_model.specs.declared.parts.PageParts.{PageParts}
use Rattle.page_model.specs.Decider.{decider}
use Rattle.page_model.specs.Edges.{d2}
use Rattle.page_model.specs.Limits.{half_sample, scale}
use Rattle.page_model.specs.Page.{params_at, plates, samples, sample_at}
use Rattle.page_model.specs.Tints.{trapped_plane}
use Rattle.page_model.specs.Within.{black, within}
use Rattle.lists.specs.Words.{square}
use Rattle.page_model.specs.Zones.{zone_of}
use Rattle.page_files.specs.Inputs.{plate_at}
use Rattle.pgm_plates.specs.declared.plate.Plate.{Plate as PlateRead}
use Rattle.pgm_plates.specs.Planes.{plate_of}

-- The edge is at most so far from the sample, in ten-thousandths of a point at the page's
-- resolution; both sides are squared.
abbrev pub IsUpTo : PageParts → At → EdgeAt → ℕ → Type 0
IsUpTo page p e width = d2 p e * square half_sample ≤ square (width * page.resolution)

-- The sample's edge traps up to its place: at most the trap width of the sample's zone away, or,
-- at a black edge, at most that width times the black width.
pub record IsNear (page : PageParts) (p : At) (e : EdgeAt) : Type 0 where
  pub decides : decider page p ≡ Some e
  pub is_within : within page p e ≡ true
  pub plain : black page (params_at page (zone_of page p)) e ≡ false
      → IsUpTo page p e ((params_at page (zone_of page p)).trap_width * scale)
  pub at_black : black page (params_at page (zone_of page p)) e ≡ true
      → IsUpTo page p e ((params_at page (zone_of page p)).trap_width
      * (params_at page (zone_of page p)).black_width)

-- the sample of that number in a plate, row by row
abbrev pub sample_in : PlateRead → ℕ → ℕ
sample_in plate k = slice_index_or plate.samples k 0

-- the plate that becomes of plate c
abbrev pub plate_after : PageParts → ℕ → PlateRead
plate_after page c = plate_of (trapped_plane page c)

-- The plates that were read change only near edges of the page that they make: by plate and sample.
pub record ChangesNearEdges (page : PageParts) (read : List PlateRead) : Type 0 where
  pub changed : (c k : ℕ) → c < plates page → k < samples page
      → sample_in (plate_after page c) k ≢ sample_in (plate_at read c) k
      → (e : EdgeAt) × IsNear page (sample_at page k) e
  pub kept : (c k : ℕ) → c < plates page → k < samples page
      → ((e : EdgeAt) → IsNear page (sample_at page k) e → ⊥)
      → sample_in (plate_after page c) k ≡ sample_in (plate_at read c) k
