-- What the engine of one thread works over: the zones and marks of all samples, and room for a
-- row of tints.
use Rattle.std.specs.Prelude.{◌≡◌, ◌*◌, length}
use Rattle.page_model.specs.declared.parts.PageParts.{PageParts}
use Rattle.page_model.specs.Page.{plates, width}
use Rattle.page_tally.specs.Shapes.{Shape}
use Rattle.strip_engine.specs.declared.strips.StripBuffers.{StripBuffers}
use Rattle.strip_engine.specs.Whole.{sample_marks, sample_zones}

-- the buffers have a place for each sample of a page of that shape, and for the tints of a row
pub record HasPlaces (shape : Shape) (buffers : StripBuffers) : Type 0 where
  pub zones : length buffers.zones.items ≡ shape.wide * shape.tall
  pub marks : length buffers.marks.items ≡ shape.wide * shape.tall
  pub row : length buffers.row.items ≡ shape.deep * shape.wide

-- the buffers have the zones and marks of all samples of the page, and room for a row of its tints
pub record AreBuffers (page : PageParts) (buffers : StripBuffers) : Type 0 where
  pub zones : buffers.zones.items ≡ sample_zones page
  pub marks : buffers.marks.items ≡ sample_marks page
  pub row : length buffers.row.items ≡ plates page * width page
