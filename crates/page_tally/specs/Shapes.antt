-- Pages of one shape, whose outcomes take the same memory.
use Rattle.std.specs.Prelude.{◌≡◌, ℕ, ◌*◌, ◌<◌, length}
use Rattle.page_model.specs.declared.parts.PageParts.{PageParts}
use Rattle.page_model.specs.Page.{height, plates, width}
use Rattle.page_model.specs.Planes.{plane_at}
use Rattle.page_tally.specs.declared.outcome.Outcome.{Outcome}

-- the samples of a row, the rows, and how many plates and zones there are
pub record Shape : Type 0 where
  pub wide : ℕ
  pub tall : ℕ
  pub deep : ℕ
  pub zones : ℕ

-- the shape of a page
abbrev pub shape_of : PageParts → Shape
shape_of page = record {
  wide = width page;
  tall = height page;
  deep = plates page;
  zones = length page.zones;
}

-- the outcome has a place for all that comes of a page of that shape
pub record HasShape (shape : Shape) (outcome : Outcome) : Type 0 where
  pub planes : length outcome.planes ≡ shape.deep
  pub tints : (c : ℕ) → c < shape.deep
      → length (plane_at outcome.planes c).tints ≡ shape.wide * shape.tall
  pub zone_samples : length outcome.zone_samples.items ≡ shape.zones
  pub zone_changed : length outcome.zone_changed.items ≡ shape.zones
  pub plate_changed : length outcome.plate_changed.items ≡ shape.deep
  pub changes : length outcome.changes.items ≡ shape.wide
