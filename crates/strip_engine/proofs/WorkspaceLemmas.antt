-- What is taken in of a page, and buffers for it, have the page's shape.
use Rattle.std.proofs.Common.{ℕ, Bool, ◌∙◌, ap, length}
use Rattle.page_model.specs.declared.parts.PageParts.{PageParts}
use Rattle.page_tally.specs.declared.outcome.Outcome.{Outcome}
use Rattle.page_tally.specs.Shapes.{HasShape, shape_of}
use Rattle.page_tally.specs.Standing.{HasRows}
use Rattle.page_tally.specs.Uncounted.{HasTints}
use Rattle.strip_engine.specs.declared.strips.StripBuffers.{StripBuffers}
use Rattle.strip_engine.specs.StripBuffers.{HasPlaces, AreBuffers}
use Rattle.strip_engine.specs.Taken.{IsTaken}
use Rattle.strip_engine.proofs.WholeLemmas.{sample_marks-length, sample_zones-length}

pub outcome_shape : (page : PageParts) (rows : ℕ) (o : Outcome) → HasRows page rows o → HasShape (shape_of page) o
outcome_shape page rows o h = record {
  planes = h.planes.count;
  tints = λ c l. (h.planes.each c l).long;
  zone_samples = h.zone_samples.long;
  zone_changed = h.zone_changed.long;
  plate_changed = h.plate_changed.long;
  changes = h.changes;
}

-- rows that are counted are put in as well
pub rows_tints : (page : PageParts) (rows : ℕ) (o : Outcome) → HasRows page rows o → HasTints page rows o
rows_tints page rows o h = record { shape = outcome_shape page rows o h; planes = h.planes }

pub rows_taken : (page : PageParts) (rows : ℕ) (counted : Bool) (o : Outcome) → HasRows page rows o → IsTaken page rows counted o
rows_taken page rows counted o h = record { tints = rows_tints page rows o h; counts = λ _. h }

pub buffers_shape : (page : PageParts) (buffers : StripBuffers) → AreBuffers page buffers → HasPlaces (shape_of page) buffers
buffers_shape page buffers h = record {
  zones = ap length h.zones ∙ sample_zones-length page;
  marks = ap length h.marks ∙ sample_marks-length page;
  row = h.row;
}
